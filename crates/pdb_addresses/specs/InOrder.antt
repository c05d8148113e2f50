-- Lists in order.
use Rattle.std.specs.Prelude.{List, [], ◌∷◌, if◌then◌else◌}
use Rattle.std.specs.declared.cmp.Ordering.{Ordering}
use Rattle.std.specs.Ordering.{is_gt}

-- an element among others in order: before those that tie with it
abbrev pub inserted : {X : Type 0} → (X → X → Ordering) → X → List X → List X
inserted cmp x [] = x ∷ []
inserted cmp x (other ∷ others) =
    if is_gt (cmp x other) then other ∷ inserted cmp x others
    else x ∷ other ∷ others

-- elements in order; those that tie stay in theirs
abbrev pub in_order : {X : Type 0} → (X → X → Ordering) → List X → List X
in_order cmp [] = []
in_order cmp (x ∷ others) = inserted cmp x (in_order cmp others)
