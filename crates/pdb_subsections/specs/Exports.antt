-- Cross-module exports: the indices as a module names them, and those in the file's tables. The
-- layout is that of LocalIdAndGlobalIdPair in microsoft-pdb's cvinfo.h, as the pdb crate reads it.
use Rattle.std.specs.Prelude.{◌≡◌, ◌≢◌, ℕ, ◌==◌, List, ◌∷◌, ◌++◌, map, Option, option_map, Result}
use Rattle.std.specs.Prelude.{Ok, if◌then◌else◌}
use Rattle.std.specs.Int.{w32}
use Rattle.std.specs.List.{find, AllByRecursion}
use Rattle.pdb_container.specs.Container.{word_at}
use Rattle.pdb_container.specs.Fault.{Fault, ◌>>=◌}
use Rattle.pdb_container.specs.Fields.{Reader, number_at, entries}
use Rattle.pdb_container.specs.IdIndex.{id_index}
use Rattle.pdb_container.specs.Index.{is_cross_module}
use Rattle.pdb_container.specs.TypeIndex.{type_index}
use Rattle.pdb_subsections.specs.declared.exports.CrossModuleExport.{CrossModuleExport}
use Rattle.pdb_subsections.specs.declared.exports.CrossModuleExport.TheVariants as forms
use Rattle.pdb_subsections.specs.declared.exports.Export.{Export}

-- an export: an index as the module names it, and the index in the TPI or the IPI
abbrev pub Entry : Type 0
Entry = Export

-- an export, 8 bytes: both indices
unfoldable pub export_at : Reader Export
export_at bytes = do
  local ← number_at w32 bytes
  global ← number_at w32 local.1
  Ok (record { local = local.0; global = global.0 }, global.1)

-- the exports, to the end of the bytes
abbrev pub exports_of : List ℕ → Result (List Export) Fault
exports_of bytes = entries export_at bytes

-- the index in the TPI or the IPI for one as the module names it: the first export of that index
-- counts
abbrev pub first_export : List Export → ℕ → Option ℕ
first_export exports local = option_map (λ e. e.global) (find (λ e. e.local == local) exports)

-- an export of an id, where bit 31 of the index as the module names it is set, or of a type
abbrev pub export_form : Export → CrossModuleExport
export_form e =
    if is_cross_module e.local then forms.Id (record { 0 = id_index e.local }) (id_index e.global)
    else forms.OfType (record { 0 = type_index e.local }) (type_index e.global)

-- no export has an index as the module names it
abbrev pub Lack : List Export → ℕ → Type 0
Lack exports local = AllByRecursion (λ e. e.local ≢ local) exports

-- the first export of an index as the module names it gives this one in the file's table
abbrev pub IsFirst : List Export → ℕ → ℕ → Type 0
IsFirst exports local global = (front others : List Export) × Lack front local
    × (exports ≡ front ++ record { local = local; global = global } ∷ others)

-- ---- exports as they are stored

-- an export in 8 bytes
abbrev pub export_in : List ℕ → Export
export_in chunk = record { local = word_at chunk 0; global = word_at chunk 4 }

-- the exports in chunks of 8 bytes each
abbrev pub exports_by_eight : List (List ℕ) → List Export
exports_by_eight chunks = map export_in chunks
