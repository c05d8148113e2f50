-- Files of a list, as an iterator goes over them.
use Rattle.std.proofs.Common.{◌≡◌, ◌≢◌, ℕ, ◌<◌, List, length, drop, None, Some, Err, arith}
use Rattle.std.proofs.lemmas.List.{length-drop}
use Rattle.pdb_container.specs.Fault.{Fault}
use Rattle.pdb_container.specs.Listing.{ending}
use Rattle.pdb_container.proofs.Listings.{listing_fault}
use Rattle.pdb_subsections.proofs.Steps.{not_ended_badly}
use Rattle.pdb_lines.specs.Checksums.{file_at, files_from}

some_left : (list : List ℕ) (place : ℕ) → place < length list → length (drop place list) ≢ 0
some_left list place lt none = omega (arith, length-drop place list, none)

-- an entry that is refused ends the checksums with its fault
pub files_fault : (list : List ℕ) (place : ℕ) (e : Fault) → place < length list
    → file_at (length list) (drop place list) ≡ Err e → files_from list place ≡ ending (Some e)
files_fault list place e lt read = listing_fault (file_at (length list)) (drop place list) e
    (some_left list place lt) read

-- an entry that is refused is no good end
pub files_not_ended : (list : List ℕ) (place : ℕ) (e : Fault) → place < length list
    → file_at (length list) (drop place list) ≡ Err e → files_from list place ≡ ending None → ⊥
files_not_ended list place e lt read end =
    not_ended_badly (file_at (length list)) (drop place list) e (some_left list place lt) read end
