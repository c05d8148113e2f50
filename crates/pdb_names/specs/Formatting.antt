-- A formatter, and what its calls leave of it.
use Rattle.std.specs.Prelude.{◌≡◌, ℕ, List, Option, Result, Ok, Err}
use Rattle.pdb_container_types.specs.Items.{Table}
use Rattle.pdb_resolving.specs.declared.error.Error.{Error}
use Rattle.pdb_resolving.specs.declared.error.Error.TheVariants as errors
use Rattle.pdb_resolving.specs.Cause.{Cause, ByFault, ByTable}
use Rattle.pdb_resolving.specs.Resolving.{none_failed}
use Rattle.pdb_symbols_modules.specs.Dbi.{Dbi}
use Rattle.pdb_symbols_modules.specs.Machine.{machine_of}
use Rattle.pdb_symbols_modules.specs.Modules.{Module}
use Rattle.pdb_type_printing.specs.Printing.{Formatting, with_failed}
use Rattle.pdb_type_printing.specs.Reading.{pointer_bytes}

-- a formatter over the provider of the modules, their entries, the table of names, the tables of
-- types and of ids, the database's header and the flags; no table of a module stands as failed
abbrev pub formatting_over : {P : Type 0} → P → List Module → Option (List ℕ) → Table → Table → Dbi
    → ℕ → Formatting P
formatting_over provider entries names types ids header flags = record {
  reading = record {
    modules = record {
      provider = provider;
      entries = entries;
      names = names;
      failed = none_failed;
    };
    types = types;
    ids = ids;
    pointer_size = pointer_bytes (machine_of header.machine);
  };
  flags = flags;
}

-- a formatter after a text was made or ended: the table that ended it stands as failed
abbrev pub failed_after : {P A : Type 0} → Result A Cause → Formatting P → Formatting P
failed_after (Ok text) f = f
failed_after (Err (ByFault fault)) f = f
failed_after (Err (ByTable table fault)) f = with_failed f table

-- A call leaves of a formatter what the text that was made, or what ended it, leaves; where memory
-- was short, all as it was.
abbrev pub Leaves : {P A B : Type 0} → Result B Cause → Formatting P → Result A Error → Formatting P
    → Type 0
Leaves made old (Err errors.OutOfMemory) new = new ≡ old
Leaves made old result new = new ≡ failed_after made old
