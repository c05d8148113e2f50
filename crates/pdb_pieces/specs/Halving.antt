-- The result of a binary search among numbers in ascending order.
use Rattle.std.specs.Prelude.{◌≡◌, ℕ, ◌<◌, ◌≤◌, Some, List, [], ◌∷◌, length, slice_get}

-- numbers in ascending order, none below `low`
abbrev pub Ascend : ℕ → List ℕ → Type 0
Ascend low [] = Unit {0}
Ascend low (n ∷ rest) = (low ≤ n) × Ascend n rest

-- the first `count` of the numbers lie at the place or before it, and the others past it
pub record IsSplit (numbers : List ℕ) (place count : ℕ) : Type 0 where
  pub bound : count ≤ length numbers
  pub before : (i n : ℕ) → i < count → slice_get numbers i ≡ Some n → n ≤ place
  pub after : (i n : ℕ) → count ≤ i → slice_get numbers i ≡ Some n → place < n
