-- Slices that lie within every file of a size, or within none.
use Rattle.std.proofs.Common.{◌≡◌, ℕ, ◌+◌, ◌≤◌, ◌<◌, Bool, true, false, List, length, get_or, drop, Err, sym}
use Rattle.std.specs.Result.{is_ok}
use Rattle.std.specs.declared.io.ErrorKind.TheVariants.{UnexpectedEof}
use Rattle.pdb_container.specs.Fault.{IoError}
use Rattle.pdb_container.specs.declared.source.SourceSlice.{SourceSlice}
use Rattle.pdb_container.specs.Places.{slice_places, places_of, bytes_at}
use Rattle.pdb_container.proofs.Bytes as bytes

-- the slices from index i on lie within a file exactly where all do
abbrev pub SoFar : ℕ → List SourceSlice → ℕ → Type 0
SoFar size slices i = (file : List ℕ) → length file ≡ size → is_ok (bytes_at file (places_of (drop i slices))) ≡ is_ok (bytes_at file (places_of slices))

abbrev pub Within : ℕ → SourceSlice → Bool → Type 0
Within size s b = (file : List ℕ) → length file ≡ size → b ≡ is_ok (bytes_at file (slice_places s))

pub within_more : (size : ℕ) (slices : List SourceSlice) (i : ℕ) (d : SourceSlice) → i < length slices → Within size (get_or slices i d) true → SoFar size slices i → SoFar size slices (i + 1)
within_more size slices i d lt is so_far file long = bytes.within_more file slices i d lt (sym (is file long)) (so_far file long)

pub within_fail : (size : ℕ) (slices : List SourceSlice) (i : ℕ) (d : SourceSlice) → i < length slices → Within size (get_or slices i d) false → SoFar size slices i
    → (file : List ℕ) → length file ≡ size → bytes_at file (places_of slices) ≡ Err (IoError UnexpectedEof)
within_fail size slices i d lt is so_far file long = bytes.within_fail file slices i d lt (sym (is file long)) (so_far file long)

pub within_done : (size : ℕ) (slices : List SourceSlice) (i : ℕ) → length slices ≤ i → SoFar size slices i → (file : List ℕ) → length file ≡ size → is_ok (bytes_at file (places_of slices)) ≡ true
within_done size slices i le so_far file long = bytes.within_done file slices i le (so_far file long)
