-- Two files that agree stream by stream, however their pages lie.
use Rattle.std.specs.Prelude.{◌≡◌, ℕ, ◌<◌, List, length, slice_index, Some, None, IsOk, Err}
use Rattle.std.specs.Result.{result_err}
use Rattle.pdb_container.specs.Fault.{Fault}
use Rattle.pdb_container.specs.Container.{layout_of, stream}
use Rattle.pdb_container.specs.Paged.{IsStream}

-- Two files open alike: both headers are refused with one fault, or neither is.
pub data OpenAlike (a b : List ℕ) : Type 0 where
  both_refused : (fault : Fault) → layout_of a ≡ Err fault → layout_of b ≡ Err fault → OpenAlike a b
  both_open : IsOk (layout_of a) → IsOk (layout_of b) → OpenAlike a b

-- Two files read alike at stream n: both have one fault there, or as many bytes, and byte i, by
-- each file's own pages, is the same.
pub data ReadAlike (a b : List ℕ) (n : ℕ) : Type 0 where
  both_fail : (fault : Fault) → stream a n None ≡ Err fault → stream b n None ≡ Err fault
      → ReadAlike a b n
  both_read : (x y : List ℕ) → IsStream a n None x → IsStream b n None y → length x ≡ length y
      → ((i : ℕ) → i < length x → slice_index x i ≡ slice_index y i) → ReadAlike a b n

-- Two files open alike, and read alike at every number.
pub record AreAlike (a b : List ℕ) : Type 0 where
  pub opens : OpenAlike a b
  pub reads : (n : ℕ) → ReadAlike a b n

-- Stream n is the same in both, bytes or fault; and where it is there, also under every limit.
pub record HaveSameStream (a b : List ℕ) (n : ℕ) : Type 0 where
  pub whole : stream a n None ≡ stream b n None
  pub limited : IsOk (stream a n None) → (limit : ℕ)
      → stream a n (Some limit) ≡ stream b n (Some limit)

-- Both have the same fault in opening, or none, and the same streams.
pub record HaveSameStreams (a b : List ℕ) : Type 0 where
  pub refused : result_err (layout_of a) ≡ result_err (layout_of b)
  pub streams : (n : ℕ) → HaveSameStream a b n
