-- Cross-module imports of a module: the modules from which it imports, and the indices of the
-- imports as these modules name them. The layout is that of CrossScopeReferences in microsoft-pdb's
-- cvinfo.h, as the pdb crate reads it.
use Rattle.std.specs.Prelude.{ℕ, ◌/◌, ◌%◌, ◌^◌, List, map, slice_get, Option, option_map}
use Rattle.std.specs.Prelude.{option_and_then, Result, Ok, ok_or}
use Rattle.std.specs.Int.{w32, from_le_bytes}
use Rattle.pdb_container.specs.Fault.{Fault, NotACrossModuleRef, CrossModuleRefNotFound, ◌>>=◌}
use Rattle.pdb_container.specs.Fault.{guard}
use Rattle.pdb_container.specs.Fields.{Reader, number_at, entries}
use Rattle.pdb_container.specs.Index.{is_cross_module}
use Rattle.pdb_container.specs.RecordFields.{many_at}
use Rattle.pdb_subsections.specs.declared.imports.CrossModuleRef.{CrossModuleRef}
use Rattle.pdb_subsections.specs.declared.imports.ImportedModule.{ImportedModule}

-- a module that is named: the offset of its name among the names, and the indices there, one for
-- each entry
pub record Import : Type 0 where
  pub name : ℕ
  pub locals : List ℕ

-- a named module: the name's offset, the number of indices, and the indices
unfoldable pub import_at : Reader Import
import_at bytes = do
  name ← number_at w32 bytes
  count ← number_at w32 name.1
  locals ← many_at (number_at w32) count.0 count.1
  Ok (record { name = name.0; locals = locals.0 }, locals.1)

-- the named modules, to the end of the bytes
abbrev pub imports_of : List ℕ → Result (List Import) Fault
imports_of bytes = entries import_at bytes

-- the named module that an index into another module means, counted from 0: bits 20 to 30
abbrev pub module_of : ℕ → ℕ
module_of index = index / 2 ^ 20 % 2 ^ 11

-- the entry of that module that an index into another module means, counted from 0: bits 0 to 19
abbrev pub entry_of : ℕ → ℕ
entry_of index = index % 2 ^ 20

-- an imported type or id: the offset of a module's name, and the index there
pub record Imported : Type 0 where
  pub name : ℕ
  pub local : ℕ

-- the imported type or id of an entry of a module
abbrev pub imported_from : Import → ℕ → Option Imported
imported_from m entry = option_map (λ local. record { name = m.name; local = local })
    (slice_get m.locals entry)

-- the imported type or id of an index, by its bits, if there is such a module and such an entry
abbrev pub found_import : List Import → ℕ → Option Imported
found_import imports index = option_and_then (λ m. imported_from m (entry_of index))
    (slice_get imports (module_of index))

-- the imported type or id of an index, which leads into another module by bit 31
abbrev pub imported : List Import → ℕ → Result Imported Fault
imported imports index = do
  elsewhere ← guard (is_cross_module index) (NotACrossModuleRef index)
  ok_or (found_import imports index) (CrossModuleRefNotFound index)

-- ---- imports as they are stored, and answers

-- numbers of four bytes each, the lowest byte first
abbrev pub numbers_in : List (List ℕ) → List ℕ
numbers_in chunks = map (from_le_bytes w32) chunks

-- a named module as it is stored
abbrev pub import_in : ImportedModule → Import
import_in m = record { name = m.name.0.0; locals = numbers_in m.locals.now }

-- a reference that was returned, whose index counts as this number
abbrev pub reference : {I : Type 0} → (I → ℕ) → CrossModuleRef I → Imported
reference number r = record { name = r.0.0.0; local = number r.1.0 }
