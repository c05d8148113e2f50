-- A part of a part of a list.
use Rattle.std.proofs.Common.{◌≡◌, ℕ, ◌+◌, ◌-◌, ◌≤◌, List, length, take, drop, sym, ap, ◌∙◌, take-take, drop-drop, arith}
use Rattle.std.specs.Prelude.{min}
use Rattle.std.proofs.lemmas.List.{drop-take, drop_min, length-take}

-- A range of a range of a list, counted from the list's beginning, is that range of the list.
part_of_range : (xs : List ℕ) (s n a k : ℕ) → a + k ≤ length (take n (drop s xs)) → take k (drop (s + a) xs) ≡ take k (drop a (take n (drop s xs)))
part_of_range xs s n a k h =
    let split : n ≡ a + (n - a) = omega (arith, length-take n (drop s xs)) in
    sym (ap (λ m. take k (drop a (take m (drop s xs)))) split
    ∙ ap (take k) (drop-take a (n - a) (drop s xs))
    ∙ take-take k (n - a) (drop a (drop s xs)) (omega (arith, length-take n (drop s xs)))
    ∙ ap (take k) (drop-drop a s xs))

-- the same where the outer range is cut to the list
pub part_of_part : (xs : List ℕ) (s n a k : ℕ) → a + k ≤ length (take n (drop s xs)) → take k (drop (min s (length xs) + a) xs) ≡ take k (drop a (take n (drop s xs)))
part_of_part xs s n a k h =
    let cut : drop (min s (length xs)) xs ≡ drop s xs = drop_min s xs in
    sym (ap (take k) (drop-drop a (min s (length xs)) xs))
    ∙ ap (λ l. take k (drop a l)) cut
    ∙ ap (take k) (drop-drop a s xs)
    ∙ part_of_range xs s n a k h
