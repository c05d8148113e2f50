-- Streams that were read.
use Rattle.std.specs.Prelude.{◌≡◌, ℕ, ◌<◌, List, [], length, slice_index_or, None, Ok}
use Rattle.pdb_container.specs.Container.{stream}

-- the first `count` streams of a file, each with all of its bytes
unfoldable pub AreFirst : List ℕ → ℕ → List (List ℕ) → Type 0
AreFirst file count streams =
    (length streams ≡ count)
    × ((n : ℕ) → n < count → stream file n None ≡ Ok (slice_index_or streams n []))
