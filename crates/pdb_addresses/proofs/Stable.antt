-- A list that was sorted stably by a total order is the only one: the list in order.
use Rattle.std.proofs.Common.{◌≡◌, ℕ, suc, ◌<◌, ◌≤◌, inl, inr, Bool, true, false, cond, not, ◌&&◌}
use Rattle.std.proofs.Common.{List, [], ◌∷◌, length, get_or, refl, sym, ap, ◌∙◌, arith}
use Rattle.std.specs.Prelude.{IsSorted, IsPermutation, replicate}
use Rattle.std.specs.Cmp.{IsTotalOrder}
use Rattle.std.specs.declared.cmp.Ordering.{Ordering}
use Rattle.std.specs.declared.cmp.Ordering.TheVariants.{Less, Equal, Greater}
use Rattle.std.specs.Ordering.{is_lt, is_gt, is_eq, ordering_reverse}
use Rattle.std.specs.List.{filter}
use Rattle.std.specs.List.Sorted.{ties, IsStable}
use Rattle.std.proofs.lemmas.Bool.{cases_Bool}
use Rattle.std.proofs.lemmas.Cmp.{upto, tied_itself, alike_right}
use Rattle.std.proofs.lemmas.List.MinMax.{ranks_by}
use Rattle.std.proofs.lemmas.List.Sorted.{sorted_far, sum_by-IsPermutation}
use Rattle.std.proofs.lemmas.List.Sums.{length-filter}
use Rattle.pdb_addresses.specs.InOrder.{inserted, in_order}

-- ---- answers of an order, and their turns

-- neither side of a tie is before the other one
tie_of : (r s : Ordering) → s ≡ ordering_reverse r → (not (is_lt r) && not (is_lt s)) ≡ is_eq r
tie_of Less s e = refl
tie_of Equal s e = rw e refl
tie_of Greater s e = rw e refl

-- one that isn't before another one, turned
pub lt_turned : (r s : Ordering) → r ≡ ordering_reverse s → is_lt s ≡ false → is_gt r ≡ false
lt_turned r Less e h = absurd cc
lt_turned r Equal e h = ap is_gt e
lt_turned r Greater e h = ap is_gt e

-- one that is after another one, turned
pub gt_turned : (r s : Ordering) → r ≡ ordering_reverse s → is_gt s ≡ true → is_gt r ≡ false
gt_turned r Less e h = absurd cc
gt_turned r Equal e h = absurd cc
gt_turned r Greater e h = ap is_gt e

neither : (r s : Ordering) → r ≡ ordering_reverse s → is_gt r ≡ false → is_gt s ≡ false → r ≡ Equal
neither r Less e h h' = let g : is_gt r ≡ true = ap is_gt e in absurd cc
neither r Equal e h h' = e
neither r Greater e h h' = absurd cc

turned_less : (r s : Ordering) → r ≡ ordering_reverse s → is_gt r ≡ true → s ≡ Less
turned_less r Less e h = refl
turned_less r Equal e h = let g : is_gt r ≡ false = ap is_gt e in absurd cc
turned_less r Greater e h = let g : is_gt r ≡ false = ap is_gt e in absurd cc

is_equal : (r : Ordering) → is_eq r ≡ true → r ≡ Equal
is_equal Less e = absurd cc
is_equal Equal e = refl
is_equal Greater e = absurd cc

module _ {X : Type 0} (R : X → X → Ordering) where
  -- none is before an element
  abbrev pub Low : X → List X → Type 0
  Low a [] = Unit {0}
  Low a (x ∷ xs) = (is_gt (R a x) ≡ false) × Low a xs

  -- none is less than one before it
  abbrev pub Up : List X → Type 0
  Up [] = Unit {0}
  Up (x ∷ xs) = Low x xs × Up xs

  abbrev tie : X → X → Bool
  tie = ties (λ x y. is_lt (R x y))

  abbrev AreKept : List X → List X → Type 0
  AreKept ys zs = (k : X) → filter (tie k) ys ≡ filter (tie k) zs

  module _ (o : IsTotalOrder R) where
    -- ---- lists that rise

    -- none is before an element that is up to another one of which this holds
    pub low_down : (a b : X) (xs : List X) → is_gt (R a b) ≡ false → Low b xs → Low a xs
    low_down a b [] le low = tt
    low_down a b (x ∷ xs) le low = (upto o a b x le low.0, low_down a b xs le low.1)

    -- where one is after another, the other isn't after it
    pub up_to_other : (a b : X) → is_gt (R a b) ≡ true → is_gt (R b a) ≡ false
    up_to_other a b h = gt_turned (R b a) (R a b) (o.antisymm b a) h

    low_inserted : (a c : X) (xs : List X) → is_gt (R a c) ≡ false → Low a xs
        → Low a (inserted R c xs)
    low_inserted a c [] le low = (le, tt)
    low_inserted a c (x ∷ xs) le low = elim (cases_Bool (is_gt (R c x))) [
      | inl behind ↦ rw behind (low.0, low_inserted a c xs le low.1)
      | inr not_behind ↦ rw not_behind (le, low)
    ]

    -- an element inserted where it belongs leaves the list in order
    pub up_inserted : (c : X) (xs : List X) → Up xs → Up (inserted R c xs)
    up_inserted c [] up = (tt, tt)
    up_inserted c (x ∷ xs) up = elim (cases_Bool (is_gt (R c x))) [
      | inl behind ↦
          rw behind (low_inserted x c xs (up_to_other c x behind) up.0, up_inserted c xs up.1)
      | inr not_behind ↦ rw not_behind ((not_behind, low_down c x xs not_behind up.0), up)
    ]

    -- elements in order rise
    pub up_in_order : (xs : List X) → Up (in_order R xs)
    up_in_order [] = tt
    up_in_order (x ∷ xs) = up_inserted x (in_order R xs) (up_in_order xs)

    low_from : (c : X) (xs : List X)
        → ((j : ℕ) → j < length xs → is_gt (R c (get_or xs j c)) ≡ false) → Low c xs
    low_from c [] each = tt
    low_from c (x ∷ xs) each =
        (each 0 (omega arith), low_from c xs (λ j lt. each (suc j) (omega arith)))

    up_from : (xs : List X)
        → ((i j : ℕ) (d : X) → i ≤ j → j < length xs
        → is_gt (R (get_or xs i d) (get_or xs j d)) ≡ false) → Up xs
    up_from [] rises = tt
    up_from (x ∷ xs) rises = (
      low_from x xs (λ j lt. rises 0 (suc j) x (omega arith) (omega arith)),
      up_from xs (λ i j d le lt. rises (suc i) (suc j) d (omega arith) (omega arith)),
    )

    up_sorted : (xs : List X) → IsSorted R xs → Up xs
    up_sorted xs sorted =
        up_from xs (λ i j d le lt. lt_turned (R (get_or xs i d) (get_or xs j d))
        (R (get_or xs j d) (get_or xs i d)) (o.antisymm (get_or xs i d) (get_or xs j d))
        (sorted_far (λ x y. is_lt (R x y)) (ranks_by o (λ (c : X). c)) xs sorted i j d le lt))

    -- ---- the elements that tie with one

    tie_is : (k y : X) → tie k y ≡ is_eq (R k y)
    tie_is k y = tie_of (R k y) (R y k) (o.antisymm y k)

    tied : (k y : X) → tie k y ≡ true → R k y ≡ Equal
    tied k y h = is_equal (R k y) (sym (tie_is k y) ∙ h)

    onto_same : (k x : X) (xs ys : List X) → filter (tie k) xs ≡ filter (tie k) ys
        → filter (tie k) (x ∷ xs) ≡ filter (tie k) (x ∷ ys)
    onto_same k x xs ys e = ap (λ (zs : List X). cond (tie k x) (x ∷ zs) zs) e

    -- two neighbours that don't tie change places
    swapped : (k r x : X) (xs : List X) → is_gt (R r x) ≡ true
        → filter (tie k) (x ∷ r ∷ xs) ≡ filter (tie k) (r ∷ x ∷ xs)
    swapped k r x xs behind = elim (cases_Bool (tie k x)) [
      | inl h ↦ elim (cases_Bool (tie k r)) [
        | inl h' ↦
            let e : R r x ≡ Equal = sym (o.congr k r x (tied k r h')) ∙ tied k x h in
            let g : is_gt (R r x) ≡ false = ap is_gt e in
            absurd cc
        | inr h' ↦ rw (h, h') refl
      ]
      | inr h ↦ rw h refl
    ]

    kept_inserted : (k r : X) (xs : List X) → filter (tie k) (inserted R r xs)
        ≡ filter (tie k) (r ∷ xs)
    kept_inserted k r [] = refl
    kept_inserted k r (x ∷ xs) = elim (cases_Bool (is_gt (R r x))) [
      | inl behind ↦
          rw behind (onto_same k x (inserted R r xs) (r ∷ xs) (kept_inserted k r xs)
          ∙ swapped k r x xs behind)
      | inr not_behind ↦ rw not_behind refl
    ]

    kept_in_order : (k : X) (xs : List X) → filter (tie k) (in_order R xs) ≡ filter (tie k) xs
    kept_in_order k [] = refl
    kept_in_order k (x ∷ xs) = kept_inserted k x (in_order R xs)
        ∙ onto_same k x (in_order R xs) xs (kept_in_order k xs)

    before_too : (k m x : X) → is_gt (R m k) ≡ true → is_gt (R m x) ≡ false → tie k x ≡ false
    before_too k m x behind low = elim (cases_Bool (tie k x)) [
      | inl h ↦
          let e : R m k ≡ R m x = alike_right o k x m (tied k x h) in
          let g : is_gt (R m k) ≡ is_gt (R m x) = ap is_gt e in
          absurd cc
      | inr h ↦ h
    ]

    -- where none is before an element, none ties with one before it
    none_later : (k m : X) (xs : List X) → is_gt (R m k) ≡ true → Low m xs → filter (tie k) xs ≡ []
    none_later k m [] behind low = refl
    none_later k m (x ∷ xs) behind low =
        rw (before_too k m x behind low.0) (none_later k m xs behind low.1)

    first_of_its : (y : X) (ys : List X) → filter (tie y) (y ∷ ys) ≡ y ∷ filter (tie y) ys
    first_of_its y ys = rw (tie_is y y ∙ ap is_eq (tied_itself o y)) refl

    itself : (x : X) → is_gt (R x x) ≡ false
    itself x = ap is_gt (tied_itself o x)

    not_later : (y z : X) (ys zs : List X) → Up (z ∷ zs) → AreKept (y ∷ ys) (z ∷ zs)
        → is_gt (R z y) ≡ true → ⊥
    not_later y z ys zs up kept behind =
        let none : filter (tie y) (z ∷ zs) ≡ [] = none_later y z (z ∷ zs) behind (itself z, up.0) in
        let e : y ∷ filter (tie y) ys ≡ [] = sym (first_of_its y ys) ∙ kept y ∙ none in
        absurd cc

    same_first : (y z : X) (ys zs : List X) → R y z ≡ Equal → AreKept (y ∷ ys) (z ∷ zs) → y ≡ z
    same_first y z ys zs e kept =
        let f : filter (tie y) (z ∷ zs) ≡ z ∷ filter (tie y) zs =
        rw (tie_is y z ∙ ap is_eq e) refl in
        let g : y ∷ filter (tie y) ys ≡ z ∷ filter (tie y) zs =
        sym (first_of_its y ys) ∙ kept y ∙ f in
        cc

    same_rank : (y z : X) (ys zs : List X) → Up (y ∷ ys) → Up (z ∷ zs) → AreKept (y ∷ ys) (z ∷ zs)
        → R y z ≡ Equal
    same_rank y z ys zs up up' kept = elim (cases_Bool (is_gt (R z y))) [
      | inl behind ↦ absurd (not_later y z ys zs up' kept behind)
      | inr h ↦ elim (cases_Bool (is_gt (R y z))) [
        | inl behind ↦ absurd (not_later z y zs ys up (λ k. sym (kept k)) behind)
        | inr h' ↦ neither (R y z) (R z y) (o.antisymm y z) h' h
      ]
    ]

    same_others : (k y : X) (ys zs : List X) → filter (tie k) (y ∷ ys) ≡ filter (tie k) (y ∷ zs)
        → filter (tie k) ys ≡ filter (tie k) zs
    same_others k y ys zs e = elim (tie k y)
        as (λ (b : Bool). cond b (y ∷ filter (tie k) ys) (filter (tie k) ys)
        ≡ cond b (y ∷ filter (tie k) zs) (filter (tie k) zs)
        → filter (tie k) ys ≡ filter (tie k) zs) [
          | true ↦ λ h. cc
          | false ↦ λ h. h
        ] e

    the_only_one : (ys zs : List X) → Up ys → Up zs → AreKept ys zs → ys ≡ zs
    the_only_one [] [] up up' kept = refl
    the_only_one [] (z ∷ zs) up up' kept = let e : [] ≡ z ∷ filter (tie z) zs =
        kept z ∙ first_of_its z zs in absurd cc
    the_only_one (y ∷ ys) [] up up' kept = let e : y ∷ filter (tie y) ys ≡ [] =
        sym (first_of_its y ys) ∙ kept y in absurd cc
    the_only_one (y ∷ ys) (z ∷ zs) up up' kept =
        let f : y ≡ z = same_first y z ys zs (same_rank y z ys zs up up' kept) kept in
        let others : AreKept ys zs =
        λ k. same_others k y ys zs (kept k ∙ ap (λ (r : X). filter (tie k) (r ∷ zs)) (sym f)) in
        rw (f, the_only_one ys zs up.1 up'.1 others) refl

    -- elements that were sorted stably are those in order
    pub is_in_order : (xs ys : List X) → IsSorted R ys → IsStable R xs ys → ys ≡ in_order R xs
    is_in_order xs ys sorted stable = the_only_one ys (in_order R xs) (up_sorted ys sorted)
        (up_in_order xs) (λ k. stable k ∙ sym (kept_in_order k xs))

    -- ---- where only an element itself ties with it

    ties_are : ((x y : X) → R x y ≡ Equal → x ≡ y) → (k : X) (xs : List X)
        → filter (tie k) xs ≡ replicate (length (filter (tie k) xs)) k
    ties_are only k [] = refl
    ties_are only k (x ∷ xs) = elim (cases_Bool (tie k x)) [
      | inl h ↦
          rw h (ap (λ (y : X). y ∷ filter (tie k) xs) (sym (only k x (tied k x h)))
          ∙ ap (λ (l : List X). k ∷ l) (ties_are only k xs))
      | inr h ↦ rw h (ties_are only k xs)
    ]

    -- elements that were sorted by any sort are those in order
    pub is_in_order_of_equals : ((x y : X) → R x y ≡ Equal → x ≡ y) → (xs ys : List X)
        → IsPermutation xs ys → IsSorted R ys → ys ≡ in_order R xs
    is_in_order_of_equals only xs ys permutation sorted =
        is_in_order xs ys sorted (λ k. ties_are only k ys
        ∙ ap (λ n. replicate n k) (length-filter (tie k) ys
        ∙ sum_by-IsPermutation (λ x. cond (tie k x) 1 0) xs ys permutation
        ∙ sym (length-filter (tie k) xs))
        ∙ sym (ties_are only k xs))
