-- Stretches: the longest parts of a list in which each one is linked with the one before it.
use Rattle.std.specs.Prelude.{ℕ, suc, Bool, List, [], ◌∷◌, length, if◌then◌else◌}

-- one element or more, side by side in a list
pub record Stretch (A : Type 0) : Type 0 where
  pub first : A
  pub more : List A

-- all of a stretch
abbrev pub members : {A : Type 0} → Stretch A → List A
members s = s.first ∷ s.more

-- the number of elements of a stretch
abbrev pub size_of : {A : Type 0} → Stretch A → ℕ
size_of s = suc (length s.more)

-- an element before stretches: part of the first one if it is linked with the element at its start,
-- otherwise a stretch of its own
abbrev pub with_first : {A : Type 0} → (A → A → Bool) → A → List (Stretch A) → List (Stretch A)
with_first linked x [] = record { first = x; more = [] } ∷ []
with_first linked x (s ∷ rest) =
    if linked x s.first then record { first = x; more = members s } ∷ rest
    else record { first = x; more = [] } ∷ s ∷ rest

-- the stretches of a list, by which of two neighbours are linked
abbrev pub stretches : {A : Type 0} → (A → A → Bool) → List A → List (Stretch A)
stretches linked [] = []
stretches linked (x ∷ xs) = with_first linked x (stretches linked xs)
