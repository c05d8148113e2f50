-- A table that says where an index of a path would stand: by the low bits of an index, the first
-- place of the path at which an index has them.
use Rattle.std.specs.Prelude.{◌≡◌, ℕ, ◌%◌, ◌<◌, ◌≤◌, Bool, ◌&&◌, List, length, slice_index, ◌==◌}
use Rattle.std.specs.Prelude.{nat_lt}
use Rattle.pdb_type_printing.specs.Paths.{Path}

-- the low bits of an index
abbrev pub low_bits : ℕ → ℕ
low_bits i = i % 4096

-- the place that a table has for an index
abbrev pub place_of : List ℕ → ℕ → ℕ
place_of table i = slice_index table (low_bits i)

-- whether the place that a table has for an index is one of the first n of a path, and the index
-- there has the same low bits
abbrev pub is_placed : List ℕ → Path → ℕ → ℕ → Bool
is_placed table path n i = nat_lt (place_of table i) n
    && (low_bits (slice_index path (place_of table i)) == low_bits i)

-- For each of a path's first n indices the table has its own place or one before, at which an index
-- has the same low bits.
pub record ArePlaced (table : List ℕ) (path : Path) (n : ℕ) : Type 0 where
  pub many : length table ≡ 4096
  pub before : (k : ℕ) → k < n → place_of table (slice_index path k) ≤ k
  pub alike : (k : ℕ) → k < n → low_bits (slice_index path (place_of table (slice_index path k)))
      ≡ low_bits (slice_index path k)

-- A path has at most 1,024 indices, and each has a place in its table, if there is one.
pub record IsIndexed (table : List ℕ) (path : Path) : Type 0 where
  pub few : length path ≤ 1024
  pub placed : 0 < length table → ArePlaced table path (length path)
