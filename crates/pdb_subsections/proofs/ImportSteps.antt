-- The modules that a module names, as a loop reads them, and the entry of one.
use Rattle.std.proofs.Common.{◌≡◌, ◌≢◌, ℕ, ◌-◌, ◌+◌, ◌<◌, ◌++◌, List, [], ◌∷◌, length, map, Result}
use Rattle.std.proofs.Common.{Ok, ap, ◌∙◌}
use Rattle.std.specs.Prelude.{slice_get, option_map}
use Rattle.std.proofs.lemmas.List.{map-append}
use Rattle.std.proofs.lemmas.Option.{slice_get-map}
use Rattle.pdb_container.specs.Fault.{Fault}
use Rattle.pdb_container.specs.Fields.{entries_within}
use Rattle.pdb_container.proofs.Entries.{entries_front, entries_more}
use Rattle.pdb_subsections.specs.declared.imports.ImportedModule.{ImportedModule}
use Rattle.pdb_subsections.specs.Imports.{Import, import_in, import_at}

-- the view of the element at a place is the element at that place of the views
pub mapped_at : {A B : Type 0} (view : A → B) (xs : List A) (place : ℕ)
    → slice_get (map view xs) place ≡ option_map view (slice_get xs place)
mapped_at view xs place = slice_get-map view xs place

-- one more module
pub imports_more : (modules : List ImportedModule) (count i : ℕ) (bytes left : List ℕ)
    (m : ImportedModule) (total : Result (List Import) Fault) → i < count → length bytes ≢ 0
    → import_at bytes ≡ Ok (import_in m, left)
    → entries_front (map import_in modules) (entries_within import_at (count - i) bytes) ≡ total
    → entries_front (map import_in (modules ++ m ∷ []))
    (entries_within import_at (count - (i + 1)) left) ≡ total
imports_more modules count i bytes left m total lt some read so_far =
    ap (λ front. entries_front front (entries_within import_at (count - (i + 1)) left))
    (map-append import_in modules (m ∷ []))
    ∙ entries_more import_at (map import_in modules) count i bytes left (import_in m) total lt
    some read so_far
