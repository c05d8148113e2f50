-- Annotations one after another, up to the end.
use Rattle.std.proofs.Common.{◌≡◌, ◌≢◌, ℕ, ◌<◌, List, length, None, Some, Ok, Err, refl}
use Rattle.pdb_container.specs.Fault.{Fault}
use Rattle.pdb_container.specs.Listing.{ending, before}
use Rattle.pdb_container.proofs.Listings.{listing_next, listing_fault, listing_end}
use Rattle.pdb_symbol_records.specs.declared.annotation.BinaryAnnotation.{BinaryAnnotation}
use Rattle.pdb_symbol_records.specs.Annotations.{annotation_or_end, annotations_of}

-- an annotation that was read stands before those after it
pub annotation_next : (bytes left : List ℕ) (x : BinaryAnnotation)
    → annotation_or_end bytes ≡ Ok (Some x, left) → length left < length bytes
    → annotations_of bytes ≡ before x (annotations_of left)
unfolding annotations_of
annotation_next bytes left x read lt =
    rw (listing_next annotation_or_end bytes left (Some x) read lt) refl

-- an end that was read ends the annotations
pub annotation_end : (bytes left : List ℕ) → annotation_or_end bytes ≡ Ok (None, left)
    → length left < length bytes → annotations_of bytes ≡ ending None
unfolding annotations_of
annotation_end bytes left read lt = rw (listing_next annotation_or_end bytes left None read lt) refl

-- a fault that was met ends the annotations
pub annotation_fault : (bytes : List ℕ) (e : Fault) → length bytes ≢ 0
    → annotation_or_end bytes ≡ Err e → annotations_of bytes ≡ ending (Some e)
unfolding annotations_of
annotation_fault bytes e some read = rw (listing_fault annotation_or_end bytes e some read) refl

-- no byte has no annotation
pub annotation_none : (bytes : List ℕ) → length bytes ≡ 0 → annotations_of bytes ≡ ending None
unfolding annotations_of
annotation_none bytes none = rw (listing_end annotation_or_end bytes none) refl
