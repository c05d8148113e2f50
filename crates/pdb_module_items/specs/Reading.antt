-- Types and ids by their indices as a module has them.
use Rattle.std.specs.Prelude.{ℕ, Result}
use Rattle.pdb_container.specs.Fault.{◌>>=◌}
use Rattle.pdb_container_types.specs.Items.{Table, item_at}
use Rattle.pdb_container_types.specs.ItemType.{type_of_item}
use Rattle.pdb_records.specs.Forms.{TypeForm}
use Rattle.pdb_records.specs.IdForms.{IdForm}
use Rattle.pdb_records.specs.IdRecords.{id_form_of}
use Rattle.pdb_symbols_modules.specs.Dbi.{Dbi}
use Rattle.pdb_symbols_modules.specs.Machine.{machine_of}
use Rattle.pdb_symbols_modules.specs.declared.machine.MachineType.{MachineType}
use Rattle.pdb_symbols_modules.specs.declared.machine.MachineType.TheVariants as machines
use Rattle.pdb_resolving.specs.declared.table.Table.{Table as TableOfModule}
use Rattle.pdb_resolving.specs.Cause.{Cause, of_no_table}
use Rattle.pdb_resolving.specs.Fault.{Fault, lifted}
use Rattle.pdb_resolving.specs.Resolving.{Kept, Modules, Provided, modules_by, resolve}
use Rattle.pdb_resolving.specs.Resolving.{with_failed as modules_with_failed}

-- the parts from which types and ids are read: the modules, the tables of types and of ids, and the
-- number of bytes of a pointer
pub record Parts : Type 0 where
  pub modules : Modules
  pub types : Table
  pub ids : Table
  pub pointer_size : ℕ

-- the type with that index in the table, by its record or, below 0x1000, by the index alone
unfoldable pub type_in : Table → ℕ → Result TypeForm Fault
type_in types index = do
  bytes ← lifted (item_at types index)
  lifted (type_of_item index bytes)

-- the id with that index in the table
unfoldable pub id_in : Table → ℕ → Result IdForm Fault
id_in ids index = do
  bytes ← lifted (item_at ids index)
  lifted (id_form_of bytes)

-- the type with that index as a module names it
unfoldable pub type_at : Parts → ℕ → ℕ → Result TypeForm Cause
type_at p asking index = do
  resolved ← resolve p.modules asking index
  of_no_table (type_in p.types resolved)

-- the id with that index as a module names it
unfoldable pub id_at : Parts → ℕ → ℕ → Result IdForm Cause
id_at p asking index = do
  resolved ← resolve p.modules asking index
  of_no_table (id_in p.ids resolved)

-- the number of bytes of a machine's pointers
abbrev pub pointer_bytes : MachineType → ℕ
pointer_bytes machines.Amd64 = 8
pointer_bytes machines.Arm64 = 8
pointer_bytes machines.Ia64 = 8
pointer_bytes machines.RiscV64 = 8
pointer_bytes machines.RiscV128 = 16
pointer_bytes (machines.Other n) = 4

-- ---- parts as they are stored

-- the parts that a reader of types and ids stores
pub record Reading (P : Type 0) : Type 0 where
  pub modules : Kept P
  pub types : Table
  pub ids : Table
  pub pointer_size : ℕ

-- a reader of these modules and tables, for the machine of an image
abbrev pub reading_for : {P : Type 0} → Dbi → Kept P → Table → Table → Reading P
reading_for image modules types ids = record {
  modules = modules;
  types = types;
  ids = ids;
  pointer_size = pointer_bytes (machine_of image.machine);
}

-- the parts of a reader, with the provider's answers

abbrev pub parts_by : {P : Type 0} → (P → Provided) → Reading P → Parts
parts_by provided r =
    record {
      modules = modules_by provided r.modules;
      types = r.types;
      ids = r.ids;
      pointer_size = r.pointer_size;
    }

-- the parts that a reader stores, with one more table of a module stored as failed
abbrev pub with_failed : {P : Type 0} → Reading P → TableOfModule → Reading P
with_failed r table = record r { modules = modules_with_failed r.modules table }
