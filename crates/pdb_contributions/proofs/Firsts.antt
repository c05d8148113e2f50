-- Of a list in order by places and then by a preference, the first of each place: an entry is put
-- among the firsts of others.
use Rattle.std.proofs.Common.{◌≡◌, inl, inr, Bool, true, false, cond, List, [], ◌∷◌, refl, sym, ap}
use Rattle.std.proofs.Common.{◌∙◌}
use Rattle.std.specs.Cmp.{IsTotalOrder}
use Rattle.std.specs.declared.cmp.Ordering.{Ordering}
use Rattle.std.specs.declared.cmp.Ordering.TheVariants.{Less, Equal, Greater}
use Rattle.std.specs.Ordering.{is_lt, is_gt, is_eq, ordering_reverse, ordering_then, then_cmp}
use Rattle.std.specs.List.{dedup, dedup_from}
use Rattle.std.proofs.lemmas.Bool.{cases_Bool}
use Rattle.std.proofs.lemmas.Cmp.{then_total, tied_back, alike_right}
use Rattle.pdb_addresses.specs.InOrder.{inserted, in_order}
use Rattle.pdb_addresses.proofs.Stable.{Low, Up, up_in_order}

-- what an answer is
data Answer (r : Ordering) : Type 0 where
  is_less : r ≡ Less → Answer r
  is_equal : r ≡ Equal → Answer r
  is_greater : r ≡ Greater → Answer r

answer : (r : Ordering) → Answer r
answer Less = is_less refl
answer Equal = is_equal refl
answer Greater = is_greater refl

equal_is : (r : Ordering) → is_eq r ≡ true → r ≡ Equal
equal_is Less e = absurd cc
equal_is Equal e = refl
equal_is Greater e = absurd cc

module _ {X : Type 0} (Q N : X → X → Ordering) where
  -- by the place, and then by the preference
  abbrev pub R : X → X → Ordering
  R = then_cmp Q N

  -- of one place
  abbrev pub same : X → X → Bool
  same x y = is_eq (Q x y)

  -- those that are not of one's place, and then the first of each place
  abbrev later : X → List X → List X
  later k [] = []
  later k (x ∷ xs) = cond (same x k) (later k xs) (dedup_from same x xs)

  -- an element among the firsts of others
  abbrev pub entered : X → List X → List X
  entered f [] = f ∷ []
  entered f (x ∷ xs) = cond (is_lt (Q f x)) (f ∷ x ∷ xs)
      (cond (is_lt (Q x f)) (x ∷ entered f xs) (cond (is_gt (N f x)) x f ∷ xs))

  -- the firsts of all
  abbrev pub firsts : List X → List X
  firsts [] = []
  firsts (x ∷ xs) = entered x (firsts xs)

  module _ (o : IsTotalOrder Q) where
    head_is : (k : X) (xs : List X) → dedup_from same k xs ≡ k ∷ later k xs
    head_is k [] = refl
    head_is k (x ∷ xs) = elim (cases_Bool (same x k)) [
      | inl h ↦ rw h (head_is k xs)
      | inr h ↦ rw h refl
    ]

    turned : (x y : X) (r : Ordering) → Q x y ≡ r → Q y x ≡ ordering_reverse r
    turned x y r e = o.antisymm y x ∙ ap ordering_reverse e

    -- of one place: later ones are the same
    later_same : (f z : X) (xs : List X) → Q f z ≡ Equal → later f xs ≡ later z xs
    later_same f z [] e = refl
    later_same f z (x ∷ xs) e =
        let one : same x f ≡ same x z = ap is_eq (alike_right o f z x e) in
        elim (cases_Bool (same x z)) [
          | inl h ↦ rw (one, h) (later_same f z xs e)
          | inr h ↦ rw (one, h) refl
        ]

    -- an element of a place of which one stands first is no first one
    later_hidden : (f z : X) (xs : List X) → Q f z ≡ Equal → Low R z xs → Up R xs
        → later z (inserted R f xs) ≡ later z xs
    later_hidden f z [] e low up = let h : same f z ≡ true = ap is_eq e in rw h refl
    later_hidden f z (x ∷ xs) e low up = elim (cases_Bool (is_gt (R f x))) [
      | inl behind ↦ elim (cases_Bool (same x z)) [
        | inl h ↦ rw (behind, h) (later_hidden f z xs e low.1 up.1)
        | inr h ↦ elim (answer (Q f x)) [
          | is_less q ↦ let g : is_gt (R f x) ≡ false =
              ap (λ r. is_gt (ordering_then r (N f x))) q in absurd cc
          | is_equal q ↦
              let p : Q x z ≡ Equal = o.congr x f z (tied_back o f x q) ∙ e in
              let g : same x z ≡ true = ap is_eq p in
              absurd cc
          | is_greater q ↦
              let p : Q z x ≡ Greater = sym (o.congr f z x e) ∙ q in
              let g : is_gt (R z x) ≡ true = ap (λ r. is_gt (ordering_then r (N z x))) p in
              absurd (cc (low.0))
        ]
      ]
      | inr not_behind ↦ let h : same f z ≡ true = ap is_eq e in rw (not_behind, h) refl
    ]

    -- what an element put among others in order does to the firsts, alone and after one of an
    -- earlier place
    abbrev Puts : X → List X → Type 0
    Puts f xs = (dedup same (inserted R f xs) ≡ entered f (dedup same xs))
        × ((z : X) → Q z f ≡ Less → Low R z xs → later z (inserted R f xs) ≡ entered f (later z xs))

    -- the element is first
    put_first : (f z : X) (xs : List X) → Q f z ≡ Less
        → dedup same (inserted R f (z ∷ xs)) ≡ entered f (dedup same (z ∷ xs))
    put_first f z xs q =
        let front : is_gt (R f z) ≡ false = ap (λ r. is_gt (ordering_then r (N f z))) q in
        let apart : same z f ≡ false = ap is_eq (turned f z Less q) in
        let less : is_lt (Q f z) ≡ true = ap is_lt q in
        rw (front, apart, head_is z xs, less) refl

    -- the element is of the first one's place
    put_same : (f z : X) (xs : List X) → Q f z ≡ Equal → Up R (z ∷ xs)
        → dedup same (inserted R f (z ∷ xs)) ≡ entered f (dedup same (z ∷ xs))
    put_same f z xs q up =
        let by_name : is_gt (R f z) ≡ is_gt (N f z) = ap (λ r. is_gt (ordering_then r (N f z))) q in
        let not_less : is_lt (Q f z) ≡ false = ap is_lt q in
        let not_more : is_lt (Q z f) ≡ false = ap is_lt (tied_back o f z q) in
        let one : same z f ≡ true = ap is_eq (tied_back o f z q) in
        elim (cases_Bool (is_gt (N f z))) [
          | inl h ↦
              rw (by_name, h, head_is z (inserted R f xs), head_is z xs, not_less, not_more, h)
              (ap (λ (ys : List X). z ∷ ys) (later_hidden f z xs q up.0 up.1))
          | inr h ↦ rw (by_name, h, one, head_is f xs, head_is z xs, not_less, not_more, h)
              (ap (λ (ys : List X). f ∷ ys) (later_same f z xs q))
        ]

    -- the element is after the first one's place
    put_behind : (f z : X) (xs : List X) → Q f z ≡ Greater
        → later z (inserted R f xs) ≡ entered f (later z xs)
        → dedup same (inserted R f (z ∷ xs)) ≡ entered f (dedup same (z ∷ xs))
    put_behind f z xs q further =
        let behind : is_gt (R f z) ≡ true = ap (λ r. is_gt (ordering_then r (N f z))) q in
        let not_less : is_lt (Q f z) ≡ false = ap is_lt q in
        let more : is_lt (Q z f) ≡ true = ap is_lt (turned f z Greater q) in
        rw (behind, head_is z (inserted R f xs), head_is z xs, not_less, more)
        (ap (λ (ys : List X). z ∷ ys) further)

    put_more : (f z : X) (xs : List X) → Up R (z ∷ xs) → Puts f xs
        → dedup same (inserted R f (z ∷ xs)) ≡ entered f (dedup same (z ∷ xs))
    put_more f z xs up others = elim (answer (Q f z)) [
      | is_less q ↦ put_first f z xs q
      | is_equal q ↦ put_same f z xs q up
      | is_greater q ↦ put_behind f z xs q (others.1 z (turned f z Greater q) up.0)
    ]

    -- no first one of a place follows it
    later_apart : (f z x : X) (xs : List X) → Q z f ≡ Less → same x z ≡ false
        → later z (inserted R f (x ∷ xs)) ≡ dedup same (inserted R f (x ∷ xs))
    later_apart f z x xs q apart =
        let other : same f z ≡ false = ap is_eq (turned z f Less q) in
        elim (cases_Bool (is_gt (R f x))) [
          | inl behind ↦ rw (behind, apart) refl
          | inr not_behind ↦ rw (not_behind, other) refl
        ]

    put_later : (f z x : X) (xs : List X) → Q z f ≡ Less → Puts f xs
        → (dedup same (inserted R f (x ∷ xs)) ≡ entered f (dedup same (x ∷ xs))) → Low R z xs
        → later z (inserted R f (x ∷ xs)) ≡ entered f (later z (x ∷ xs))
    put_later f z x xs q others whole low = elim (cases_Bool (same x z)) [
      | inl h ↦
          let p : Q f x ≡ Greater = alike_right o x z f (equal_is (Q x z) h) ∙ turned z f Less q in
          let behind : is_gt (R f x) ≡ true = ap (λ r. is_gt (ordering_then r (N f x))) p in
          rw (behind, h) (others.1 z q low)
      | inr h ↦ later_apart f z x xs q h ∙ whole
          ∙ ap (λ b. entered f (cond b (later z xs) (dedup_from same x xs))) (sym h)
    ]

    puts : (f : X) (xs : List X) → Up R xs → Puts f xs
    puts f [] up =
        (refl, λ z q low. let h : same f z ≡ false = ap is_eq (turned z f Less q) in rw h refl)
    puts f (x ∷ xs) up =
        let others : Puts f xs = puts f xs up.1 in
        let whole : dedup same (inserted R f (x ∷ xs)) ≡ entered f (dedup same (x ∷ xs)) =
        put_more f x xs up others in
        (whole, λ z q low. put_later f z x xs q others whole low.1)

    -- the firsts of a list in order
    pub firsts_are : (p : IsTotalOrder N) (xs : List X) → dedup same (in_order R xs) ≡ firsts xs
    firsts_are p [] = refl
    firsts_are p (x ∷ xs) = (puts x (in_order R xs) (up_in_order R (then_total o p) xs)).0
        ∙ ap (entered x) (firsts_are p xs)
