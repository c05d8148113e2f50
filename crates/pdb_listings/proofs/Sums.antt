-- Sums over lists that grow by one element at a time.
use Rattle.std.proofs.Common.{◌≡◌, ℕ, ◌+◌, ◌-◌, ◌<◌, ◌≤◌, List, [], ◌∷◌, ◌++◌, length, length-drop, get_or, take, drop, map, sym, ap, ◌∙◌, append_assoc, arith, refl}
use Rattle.std.specs.List.{sum_by}
use Rattle.std.specs.Prelude.{Bool, true, false, if◌then◌else◌}
use Rattle.std.proofs.lemmas.List.{map-append, take_all}
use Rattle.std.proofs.lemmas.List.Sums.{sum_by_more, sum_by_push, sum_by-take-drop}
use Rattle.std.specs.Prelude.{string_bytes}
use Rattle.pdb_listings.specs.declared.changes.Change.{Change}
use Rattle.pdb_listings.specs.declared.sizes.Size.{Size}
use Rattle.pdb_listings.specs.Sizes.{new_in, old_in, size_in, size_seen}

-- one element more of a list
pub item_more : {X : Type 0} (f : X → ℕ) (xs : List X) (i : ℕ) (x : X) → i < length xs
    → x ≡ get_or xs i x → sum_by f (take (i + 1) xs) ≡ sum_by f (take i xs) + f x
item_more f xs i x lt is =
    sum_by_more f xs i x lt ∙ ap (λ y. sum_by f (take i xs) + f y) (sym is)

-- a count that rose by one element more of a list
pub counted_more : {X : Type 0} (f : X → ℕ) (xs : List X) (i : ℕ) (d : X) (old new : ℕ)
    → i < length xs → new ≡ old + f (get_or xs i d) → old ≡ sum_by f (take i xs)
    → new ≡ sum_by f (take (i + 1) xs)
counted_more f xs i d old new lt rose so_far =
    rose ∙ ap (λ n. n + f (get_or xs i d)) so_far ∙ sym (sum_by_more f xs i d lt)

-- one element after others, which counts for as much as the next one of a list
pub pushed_more : {X Y : Type 0} (f : X → ℕ) (g : Y → ℕ) (xs : List X) (x : X) (ys : List Y) (i : ℕ)
    (y : Y) (front : ℕ) → i < length ys → y ≡ get_or ys i y → f x ≡ g y
    → sum_by f xs ≡ front + sum_by g (take i ys)
    → sum_by f (xs ++ x ∷ []) ≡ front + sum_by g (take (i + 1) ys)
pushed_more f g xs x ys i y front lt is same so_far =
    let one : sum_by f (xs ++ x ∷ []) ≡ sum_by f xs + f x = sum_by_push f xs x in
    let more : sum_by g (take (i + 1) ys) ≡ sum_by g (take i ys) + g y =
    item_more g ys i y lt is in
    omega arith

-- one element after others, which counts for nothing
pub pushed_none : {X : Type 0} (f : X → ℕ) (xs : List X) (x : X) (n : ℕ) → f x ≡ 0
    → sum_by f xs ≡ n → sum_by f (xs ++ x ∷ []) ≡ n
pushed_none f xs x n none so_far =
    let one : sum_by f (xs ++ x ∷ []) ≡ sum_by f xs + f x = sum_by_push f xs x in
    omega arith

-- one element after others, which counts for the next one of a list, or for none of it
pub pushed_if : {X Y : Type 0} (f : X → ℕ) (g : Y → ℕ) (xs : List X) (x : X) (ys : List Y) (i j : ℕ)
    (y : Y) (b : Bool) → i < length ys → y ≡ get_or ys i y → f x ≡ (if b then g y else 0)
    → j ≡ i + (if b then 1 else 0) → sum_by f xs ≡ sum_by g (take i ys)
    → sum_by f (xs ++ x ∷ []) ≡ sum_by g (take j ys)
pushed_if f g xs x ys i j y true lt is same on so_far =
    let one : sum_by f (xs ++ x ∷ []) ≡ sum_by f xs + f x = sum_by_push f xs x in
    let more : sum_by g (take (i + 1) ys) ≡ sum_by g (take i ys) + g y =
    item_more g ys i y lt is in
    let whole : sum_by f (xs ++ x ∷ []) ≡ sum_by g (take (i + 1) ys) = omega arith in
    whole ∙ ap (λ k. sum_by g (take k ys)) (sym on)
pushed_if f g xs x ys i j y false lt is same on so_far =
    let one : sum_by f (xs ++ x ∷ []) ≡ sum_by f xs + f x = sum_by_push f xs x in
    let whole : sum_by f (xs ++ x ∷ []) ≡ sum_by g (take i ys) = omega arith in
    let back : i ≡ j = omega arith in
    whole ∙ ap (λ k. sum_by g (take k ys)) back

-- all of a list
pub all_taken : {X : Type 0} (f : X → ℕ) (xs : List X) (i : ℕ) → length xs ≤ i
    → sum_by f (take i xs) ≡ sum_by f xs
all_taken f xs i past = ap (sum_by f) (take_all i xs past)

-- all that is left of a list
rest_taken : {X : Type 0} (xs : List X) (i : ℕ) → take (length xs - i) (drop i xs) ≡ drop i xs
rest_taken xs i = take_all (length xs - i) (drop i xs) (omega (arith, length-drop i xs))

-- what was taken of a list, and what is left
pub taken_and_left : {X : Type 0} (f : X → ℕ) (xs : List X) (i : ℕ)
    → sum_by f (take i xs) + sum_by f (take (length xs - i) (drop i xs)) ≡ sum_by f xs
taken_and_left {X = X} f xs i = ap (λ (l : List X). sum_by f (take i xs) + sum_by f l) (rest_taken xs i)
    ∙ sum_by-take-drop f xs i

-- nothing counts for nothing
pub none_if : (b : Bool) (n : ℕ) → n ≡ 0 → (if b then n else 0) ≡ 0
none_if true n none = none
none_if false n none = refl

-- ---- changes

-- what a name had counts as its size
pub old_as : (test : List ℕ → Bool) (c : Change) (s : Size) → string_bytes c.name ≡ string_bytes s.name
    → c.old ≡ s.bytes → old_in test c ≡ size_in test s
old_as test c s named is =
    ap (λ (n : List ℕ). if test n then c.old else 0) named
    ∙ ap (λ (n : ℕ). if test (string_bytes s.name) then n else 0) is

-- what a name has counts as its size
pub new_as : (test : List ℕ → Bool) (c : Change) (s : Size) → string_bytes c.name ≡ string_bytes s.name
    → c.new ≡ s.bytes → new_in test c ≡ size_in test s
new_as test c s named is =
    ap (λ (n : List ℕ). if test n then c.new else 0) named
    ∙ ap (λ (n : ℕ). if test (string_bytes s.name) then n else 0) is

-- two sums that are two totals differ as these
pub as_totals : (old new before after : ℕ) → old ≡ before → new ≡ after → new + before ≡ old + after
as_totals old new before after o n = omega (arith, o, n)

-- one entry of a table that was listed
pub listed_more : (sizes : List Size) (s : Size) (rest : List (List ℕ × ℕ))
    → map size_seen (sizes ++ s ∷ []) ++ rest ≡ map size_seen sizes ++ size_seen s ∷ rest
listed_more sizes s rest = ap (λ l. l ++ rest) (map-append size_seen sizes (s ∷ []))
    ∙ append_assoc (map size_seen sizes) (size_seen s ∷ []) rest
