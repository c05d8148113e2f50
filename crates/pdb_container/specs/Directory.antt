-- The directory as a container stores it.
use Rattle.std.specs.Prelude.{◌≡◌, ℕ, ◌*◌, ◌≤◌, ◌^◌, List, [], ◌∷◌, length, take, drop, map, min}
use Rattle.std.specs.Prelude.{slice_index, Option, Some, None, Result, Ok, Err}
use Rattle.std.specs.Int.{div_ceil}
use Rattle.std.specs.List.{range_with_len, sum_by}
use Rattle.pdb_container.specs.declared.directory.Directory.{Directory}
use Rattle.pdb_container.specs.declared.error.Error.{Error}
use Rattle.pdb_container.specs.Fault.{fault_of}
use Rattle.pdb_container.specs.Container.{Layout, directory_of, page_count}

-- the number of streams that a directory both counts and has sizes of
abbrev pub counted_in : List ℕ → ℕ
counted_in [] = 0
counted_in (count ∷ sizes) = min count (length sizes)

-- the number of pages before the first of each 256 streams, n of them, by all sizes
unfoldable pub starts_from : ℕ → List ℕ → ℕ → List ℕ
starts_from page_size sizes n =
    map (λ k. sum_by (page_count page_size) (take (256 * k) sizes)) (range_with_len 0 n)

-- the same for the streams that a directory both counts and has sizes of
abbrev pub starts_in : ℕ → List ℕ → List ℕ
starts_in page_size numbers =
    starts_from page_size (drop 1 numbers) (div_ceil (counted_in numbers) 256)

-- The directory has the starts of its streams. None is more than 2^30 streams can have.
pub record HasStarts (page_size : ℕ) (d : Directory) : Type 0 where
  pub exact : d.starts.items ≡ starts_in page_size d.numbers
  pub few : (k : ℕ) → slice_index d.starts.items k ≤ 2 ^ 62

-- The stored result of reading the directory is the file's: the directory's numbers with their
-- starts, or its fault; or nothing is stored.
abbrev pub IsKept : Layout → List ℕ → Option (Result Directory Error) → Type 0
IsKept h file None = Unit {0}
IsKept h file (Some (Ok d)) = (directory_of h file ≡ Ok d.numbers) × HasStarts h.page_size d
IsKept h file (Some (Err e)) = directory_of h file ≡ Err (fault_of e)
