-- A formatter and a context over what is held of a database.
use Rattle.std.specs.Prelude.{ℕ, List, Result, Ok}
use Rattle.pdb_answers.specs.Choice.{Parts}
use Rattle.pdb_loading.specs.declared.order.ContributionOrder.{ContributionOrder}
use Rattle.pdb_loading.specs.Held.{Held, parts_held, parts_held_with}
use Rattle.pdb_loading.specs.ModuleInfos.{KeptInfo}
use Rattle.pdb_symbols_modules.specs.Machine.{machine_of}
use Rattle.pdb_symbols_modules.specs.Modules.{modules_of}
use Rattle.pdb_module_items.specs.Reading.{Reading, pointer_bytes}
use Rattle.pdb_addr2line.specs.Printing.{Formatting}
use Rattle.pdb_resolving.specs.Fault.{Fault}
use Rattle.pdb_resolving.specs.Resolving.{none_failed}
use Rattle.pdb_addr2line.specs.Context.{Context, context_over}

-- a database that is held, with other modules in place of its own
abbrev pub with_modules : Held → List KeptInfo → Held
with_modules h infos = record {
  debug_information = h.debug_information;
  tables = h.tables;
  names = h.names;
  infos = infos;
}

-- the tables from which types and ids are read: what is held gives the modules, by the entries in
-- stream 3
abbrev pub reading_of : Held → Reading (List KeptInfo)
reading_of h = record {
  modules = record {
    provider = h.infos;
    entries = (modules_of h.debug_information.modules).items;
    names = h.names;
    failed = none_failed;
  };
  types = h.tables.types;
  ids = h.tables.ids;
  pointer_size = pointer_bytes (machine_of h.debug_information.machine);
}

-- a formatter over what is held, with these flags
abbrev pub formatting_of : Held → ℕ → Formatting (List KeptInfo)
formatting_of h flags = record { reading = reading_of h; flags = flags }

-- a context over what is held, whose formatter has these flags
abbrev pub context_in : Held → ℕ → Result (Context (List KeptInfo)) Fault
context_in h flags = context_over h.infos (formatting_of h flags) (parts_held h)

-- a context over parts that were made before, with other modules in place of those that are held;
-- its formatter has these flags
abbrev pub context_of_modules : Held → List KeptInfo → ℕ → Parts
    → Result (Context (List KeptInfo)) Fault
context_of_modules h infos flags parts =
    context_over infos (formatting_of (with_modules h infos) flags) (Ok parts)

-- a context over what is held, where section contributions have to stand in this order; its
-- formatter has these flags
abbrev pub context_with : ContributionOrder → Held → ℕ → Result (Context (List KeptInfo)) Fault
context_with order h flags = context_over h.infos (formatting_of h flags) (parts_held_with order h)
