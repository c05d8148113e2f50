-- Answers that are counted: which are one, by their order.
use Rattle.std.specs.Prelude.{Bool, false, Option, None, Some}
use Rattle.std.specs.declared.cmp.Ordering.{Ordering}
use Rattle.std.specs.Ordering.{is_eq}

-- whether two answers compare as equal
abbrev pub is_same : {A : Type 0} → (A → A → Ordering) → A → A → Bool
is_same cmp a b = is_eq (cmp a b)

-- whether there is an answer, and it passes a test
abbrev pub picked : {A : Type 0} → (A → Bool) → Option A → Bool
picked test None = false
picked test (Some a) = test a

-- whether an answer that may be missing is this one
abbrev pub is_answer : {A : Type 0} → (A → A → Ordering) → A → Option A → Bool
is_answer cmp a = picked (is_same cmp a)
