-- Bytes of a file by their places.
use Rattle.std.specs.Prelude.{◌≡◌, ℕ, ◌+◌, ◌*◌, ◌/◌, ◌%◌, ◌<◌, List, length, map, slice_index}
use Rattle.std.specs.Prelude.{nat_lt, Option, MatchOption, Result, Ok, Err, IsOk, if◌then◌else◌}
use Rattle.std.specs.List.{range_with_len, flat_map, list_all}
use Rattle.std.specs.declared.io.ErrorKind.TheVariants.{UnexpectedEof}
use Rattle.pdb_container.specs.Fault.{Fault}
use Rattle.pdb_container.specs.Fault.{IoError}
use Rattle.pdb_container.specs.declared.source.SourceSlice.{SourceSlice}

-- the places of a slice, one after the other
abbrev pub slice_places : SourceSlice → List ℕ
slice_places s = range_with_len s.offset s.size

-- the places of slices, slice by slice
abbrev pub places_of : List SourceSlice → List ℕ
places_of slices = flat_map slice_places slices

-- the file's bytes at these places, which all have to be there
unfoldable pub bytes_at : List ℕ → List ℕ → Result (List ℕ) Fault
bytes_at file places =
    if list_all (λ at. nat_lt at (length file)) places
    then Ok (map (λ at. slice_index file at) places) else Err (IoError UnexpectedEof)

-- there is something where the slices lie within the file, and nothing where one ends past it
abbrev pub IsSomeWithin : {X : Type 0} → Option X → List ℕ → List SourceSlice → Type 0
IsSomeWithin result file slices =
    MatchOption result (bytes_at file (places_of slices) ≡ Err (IoError UnexpectedEof))
    (λ _. IsOk (bytes_at file (places_of slices)))

-- the places of the first bytes of these pages: byte i lies in page number i / size, at i % size
unfoldable pub page_places : ℕ → List ℕ → ℕ → List ℕ
page_places size pages count =
    map (λ i. slice_index pages (i / size) * size + i % size) (range_with_len 0 count)

-- so many bytes, byte i being the file's byte in page number i / size, at i % size, which is there
pub record IsPaged (file : List ℕ) (size : ℕ) (pages : List ℕ) (count : ℕ) (bytes : List ℕ) : Type 0
  where
    pub len : length bytes ≡ count
    pub byte : (i : ℕ) → i < count
        → slice_index bytes i ≡ slice_index file (slice_index pages (i / size) * size + i % size)
    pub there : (i : ℕ) → i < count → slice_index pages (i / size) * size + i % size < length file
