-- Entries of inlined functions one after another.
use Rattle.std.proofs.Common.{◌≡◌, ◌≢◌, ℕ, ◌<◌, List, length, None, Some, Ok, Err, Bool}
use Rattle.pdb_container.specs.Fault.{Fault}
use Rattle.pdb_container.specs.Listing.{ending, before, listing}
use Rattle.pdb_container.proofs.Listings.{listing_next, listing_fault, listing_end}
use Rattle.pdb_lines.specs.Inlinees.{InlinedFunction, inlinee_at}

-- an inlinee that was read stands before those after it
pub inlinee_next : (has_files : Bool) (bytes left : List ℕ) (x : InlinedFunction)
    → inlinee_at has_files bytes ≡ Ok (x, left) → length left < length bytes
    → listing (inlinee_at has_files) bytes ≡ before x (listing (inlinee_at has_files) left)
inlinee_next has_files = listing_next (inlinee_at has_files)

-- an inlinee that is refused ends the list with its fault
pub inlinee_fault : (has_files : Bool) (bytes : List ℕ) (e : Fault) → length bytes ≢ 0
    → inlinee_at has_files bytes ≡ Err e → listing (inlinee_at has_files) bytes ≡ ending (Some e)
inlinee_fault has_files = listing_fault (inlinee_at has_files)

-- no byte has no inlinee
pub inlinee_end : (has_files : Bool) (bytes : List ℕ) → length bytes ≡ 0
    → listing (inlinee_at has_files) bytes ≡ ending None
inlinee_end has_files = listing_end (inlinee_at has_files)
