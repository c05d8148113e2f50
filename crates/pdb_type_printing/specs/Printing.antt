-- The printer of types, as the definitions see it.
use Rattle.std.specs.Prelude.{ℕ}
use Rattle.pdb_records.specs.Shapes.{shape}
use Rattle.pdb_resolving.specs.declared.table.Table.{Table}
use Rattle.pdb_resolving.specs.Resolving.{Provided}
use Rattle.pdb_module_items.specs.Reading.{Reading, parts_by, type_at, id_at}
use Rattle.pdb_module_items.specs.Reading.{with_failed as reading_with_failed}
use Rattle.pdb_module_items.specs.Sizes.{size_at}
use Rattle.pdb_type_printing.specs.Arrays as arrays
use Rattle.pdb_type_printing.specs.declared.elements.Elements.{Elements}
use Rattle.pdb_type_printing.specs.declared.asker.Asker.{Asker}
use Rattle.pdb_type_printing.specs.Env.{Env}

-- the parts from which types and ids are read, and the flags
pub record Formatting (P : Type 0) : Type 0 where
  pub reading : Reading P
  pub flags : ℕ

-- the values from which texts are made in the module with that index
abbrev pub env_of : {P : Type 0} → (P → Provided) → Formatting P → ℕ → Env
env_of provided f asking = record {
  read = type_at (parts_by provided f.reading) asking;
  read_id = id_at (parts_by provided f.reading) asking;
  size = size_at (parts_by provided f.reading) asking;
  flags = f.flags;
}

-- the values from which texts are made in the asking module
abbrev pub env_for : {P : Type 0} → (P → Provided) → Formatting P → Asker → Env
env_for provided f asker = env_of provided f asker.module_index

-- the values that a formatter stores, with one more table of a module stored as failed
abbrev pub with_failed : {P : Type 0} → Formatting P → Table → Formatting P
with_failed f table = record f { reading = reading_with_failed f.reading table }

-- arrays of arrays
abbrev pub elements_seen : Elements → arrays.Elements
elements_seen e = record {
  dimensions = e.dimensions.items;
  index = e.index.0;
  form = shape e.found;
}
