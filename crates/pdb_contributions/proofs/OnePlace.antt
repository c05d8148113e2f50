-- The public list has each place once, and at each given place an entry, which is named if a given
-- one there is.
use Rattle.std.proofs.Common.{◌≡◌, ℕ, zero, suc, ◌<◌, ◌⊎◌, inl, inr, true, false, List, [], ◌∷◌}
use Rattle.std.proofs.Common.{Option, None, Some, refl, sym, ap, subst, ◌∙◌, arith}
use Rattle.std.specs.Prelude.{slice_get, is_none, is_some, IsTrue}
use Rattle.std.specs.Cmp.{IsTotalOrder}
use Rattle.std.specs.declared.cmp.Ordering.{Ordering}
use Rattle.std.specs.declared.cmp.Ordering.TheVariants.{Less, Equal, Greater}
use Rattle.std.specs.Ordering.{nat_cmp, bool_cmp, is_lt, is_gt, ordering_reverse, ordering_then}
use Rattle.std.proofs.lemmas.Bool.{cases_Bool}
use Rattle.std.proofs.lemmas.Cmp.{ranked, upto, tied_itself}
use Rattle.pdb_addresses.specs.declared.internal_section_offset.PdbInternalSectionOffset.{
  PdbInternalSectionOffset,
}
use Rattle.pdb_contributions.specs.Publics.{PublicFunction, is_before, publics_among, StandsNamed}
use Rattle.pdb_addresses.proofs.Stable.{gt_turned}
use Rattle.pdb_contributions.proofs.Firsts.{entered, firsts}
use Rattle.pdb_contributions.proofs.PublicOrder.{place_cmp, name_cmp, place_total, name_total}
use Rattle.pdb_contributions.proofs.PublicOrder.{before_is, among_is}

less_is : (r : Ordering) → is_lt r ≡ true → r ≡ Less
less_is Less e = refl
less_is Equal e = absurd cc
less_is Greater e = absurd cc

-- neither of two is before the other one
neither_less : (r s : Ordering) → s ≡ ordering_reverse r → is_lt r ≡ false
    → is_lt s ≡ false → r ≡ Equal
neither_less Less s e h h' = absurd cc
neither_less Equal s e h h' = refl
neither_less Greater s e h h' = let g : is_lt s ≡ true = ap is_lt e in absurd cc

module _ {X : Type 0} (Q N : X → X → Ordering) where
  -- all are after an element's place
  abbrev Behind : X → List X → Type 0
  Behind a [] = Unit {0}
  Behind a (x ∷ xs) = (is_lt (Q a x) ≡ true) × Behind a xs

  -- each is after the place of one before it
  abbrev Ascends : List X → Type 0
  Ascends [] = Unit {0}
  Ascends (x ∷ xs) = Behind x xs × Ascends xs

  -- an element of one's place is among them, and this one isn't preferred to it
  abbrev Has : X → List X → Type 0
  Has g [] = ⊥
  Has g (y ∷ ys) = ((Q y g ≡ Equal) × (is_gt (N y g) ≡ false)) ⊎ Has g ys

  module _ (o : IsTotalOrder Q) (p : IsTotalOrder N) where
    behind_on : (a b : X) (xs : List X) → is_lt (Q a b) ≡ true → Behind b xs → Behind a xs
    behind_on a b [] lt behind = tt
    behind_on a b (x ∷ xs) lt behind = (
      ap is_lt (o.trans a b x (less_is (Q a b) lt) (less_is (Q b x) behind.0)),
      behind_on a b xs lt behind.1,
    )

    behind_same : (a b : X) (xs : List X) → Q a b ≡ Equal → Behind b xs → Behind a xs
    behind_same a b [] e behind = tt
    behind_same a b (x ∷ xs) e behind =
        (ap is_lt (o.congr a b x e) ∙ behind.0, behind_same a b xs e behind.1)

    of_place : (f x : X) → is_lt (Q f x) ≡ false → is_lt (Q x f) ≡ false → Q f x ≡ Equal
    of_place f x h h' = neither_less (Q f x) (Q x f) (o.antisymm x f) h h'

    behind_entered : (a f : X) (xs : List X) → is_lt (Q a f) ≡ true → Behind a xs
        → Behind a (entered Q N f xs)
    behind_entered a f [] lt behind = (lt, tt)
    behind_entered a f (x ∷ xs) lt behind = elim (cases_Bool (is_lt (Q f x))) [
      | inl h ↦ rw h (lt, behind)
      | inr h ↦ elim (cases_Bool (is_lt (Q x f))) [
        | inl h' ↦ rw (h, h') (behind.0, behind_entered a f xs lt behind.1)
        | inr h' ↦ elim (cases_Bool (is_gt (N f x))) [
          | inl n ↦ rw (h, h', n) behind
          | inr n ↦ rw (h, h', n) (lt, behind.1)
        ]
      ]
    ]

    ascends_entered : (f : X) (xs : List X) → Ascends xs → Ascends (entered Q N f xs)
    ascends_entered f [] up = (tt, tt)
    ascends_entered f (x ∷ xs) up = elim (cases_Bool (is_lt (Q f x))) [
      | inl h ↦ rw h ((h, behind_on f x xs h up.0), up)
      | inr h ↦ elim (cases_Bool (is_lt (Q x f))) [
        | inl h' ↦ rw (h, h') (behind_entered x f xs h' up.0, ascends_entered f xs up.1)
        | inr h' ↦ elim (cases_Bool (is_gt (N f x))) [
          | inl n ↦ rw (h, h', n) up
          | inr n ↦ rw (h, h', n) (behind_same f x xs (of_place f x h h') up.0, up.1)
        ]
      ]
    ]

    ascend : (xs : List X) → Ascends (firsts Q N xs)
    ascend [] = tt
    ascend (x ∷ xs) = ascends_entered x (firsts Q N xs) (ascend xs)

    behind_at : (a : X) (xs : List X) (i : ℕ) (b : X) → Behind a xs → slice_get xs i ≡ Some b
        → is_lt (Q a b) ≡ true
    behind_at a [] i b behind at = absurd cc
    behind_at a (x ∷ xs) zero b behind at = let e : x ≡ b = cc in
        ap (λ (y : X). is_lt (Q a y)) (sym e) ∙ behind.0
    behind_at a (x ∷ xs) (suc i) b behind at = behind_at a xs i b behind.1 at

    ascend_at : (xs : List X) (i j : ℕ) (a b : X) → Ascends xs → i < j → slice_get xs i ≡ Some a
        → slice_get xs j ≡ Some b → is_lt (Q a b) ≡ true
    ascend_at [] i j a b up lt at at' = absurd cc
    ascend_at (x ∷ xs) zero zero a b up lt at at' = absurd (omega arith)
    ascend_at (x ∷ xs) zero (suc j) a b up lt at at' = let e : x ≡ a = cc in
        ap (λ (y : X). is_lt (Q y b)) (sym e) ∙ behind_at x xs j b up.0 at'
    ascend_at (x ∷ xs) (suc i) zero a b up lt at at' = absurd (omega arith)
    ascend_at (x ∷ xs) (suc i) (suc j) a b up lt at at' =
        ascend_at xs i j a b up.1 (omega arith) at at'

    -- ---- the given ones

    itself : (f : X) → (Q f f ≡ Equal) × (is_gt (N f f) ≡ false)
    itself f = (tied_itself o f, ap is_gt (tied_itself p f))

    has_entered : (f : X) (xs : List X) → Has f (entered Q N f xs)
    has_entered f [] = inl (itself f)
    has_entered f (x ∷ xs) = elim (cases_Bool (is_lt (Q f x))) [
      | inl h ↦ rw h (inl (itself f))
      | inr h ↦ elim (cases_Bool (is_lt (Q x f))) [
        | inl h' ↦ rw (h, h') (inr (has_entered f xs))
        | inr h' ↦ elim (cases_Bool (is_gt (N f x))) [
          | inl n ↦
              rw (h, h', n) (inl (of_place x f h' h, gt_turned (N x f) (N f x) (p.antisymm x f) n))
          | inr n ↦ rw (h, h', n) (inl (itself f))
        ]
      ]
    ]

    has_still : (g f : X) (xs : List X) → Has g xs → Has g (entered Q N f xs)
    has_still g f [] has = absurd has
    has_still g f (x ∷ xs) has = elim (cases_Bool (is_lt (Q f x))) [
      | inl h ↦ rw h (inr has)
      | inr h ↦ elim (cases_Bool (is_lt (Q x f))) [
        | inl h' ↦
            rw (h, h')
            (elim has
            as (λ (w : ((Q x g ≡ Equal) × (is_gt (N x g) ≡ false)) ⊎ Has g xs).
            ((Q x g ≡ Equal) × (is_gt (N x g) ≡ false)) ⊎ Has g (entered Q N f xs)) [
              | inl here ↦ inl here
              | inr there ↦ inr (has_still g f xs there)
            ])
        | inr h' ↦ elim (cases_Bool (is_gt (N f x))) [
          | inl n ↦ rw (h, h', n) has
          | inr n ↦
              rw (h, h', n)
              (elim has
              as (λ (w : ((Q x g ≡ Equal) × (is_gt (N x g) ≡ false)) ⊎ Has g xs).
              ((Q f g ≡ Equal) × (is_gt (N f g) ≡ false)) ⊎ Has g xs) [
                | inl here ↦ inl (o.congr f x g (of_place f x h h') ∙ here.0, upto p f x g n here.1)
                | inr there ↦ inr there
              ])
        ]
      ]
    ]

    has_at : (xs : List X) (k : ℕ) (f : X) → slice_get xs k ≡ Some f → Has f (firsts Q N xs)
    has_at [] k f at = absurd cc
    has_at (x ∷ xs) zero f at = let e : x ≡ f = cc in let P : X → Type 0 =
        λ y. Has y (entered Q N x (firsts Q N xs)) in subst P e (has_entered x (firsts Q N xs))
    has_at (x ∷ xs) (suc k) f at = has_still f x (firsts Q N xs) (has_at xs k f at)

    -- an element of one's place, to which this one isn't preferred
    abbrev pub Found : X → List X → Type 0
    Found g xs = (i : ℕ) × (a : X) × (slice_get xs i ≡ Some a) × (Q a g ≡ Equal)
        × (is_gt (N a g) ≡ false)

    found_in : (g : X) (xs : List X) → Has g xs → Found g xs
    found_in g [] has = absurd has
    found_in g (x ∷ xs) (inl here) = (0, x, refl, here.0, here.1)
    found_in g (x ∷ xs) (inr there) = let found = found_in g xs there in
        (suc found.0, found.1, found.2, found.3, found.4)

    -- one of a given element's place is among the firsts
    pub found : (xs : List X) (k : ℕ) (f : X) → slice_get xs k ≡ Some f → Found f (firsts Q N xs)
    found xs k f at = found_in f (firsts Q N xs) (has_at xs k f at)

    -- the firsts ascend
    pub rises : (xs : List X) (i j : ℕ) (a b : X) → i < j → slice_get (firsts Q N xs) i ≡ Some a
        → slice_get (firsts Q N xs) j ≡ Some b → is_lt (Q a b) ≡ true
    rises xs i j a b lt at at' = ascend_at (firsts Q N xs) i j a b (ascend xs) lt at at'

-- ---- of the public list

same_number : (x y : ℕ) → nat_cmp x y ≡ Equal → x ≡ y
same_number x y e = ranked x y Equal (sym e)

pub both_equal : (r s : Ordering) → ordering_then r s ≡ Equal → (r ≡ Equal) × (s ≡ Equal)
both_equal Less s e = absurd cc
both_equal Equal s e = (refl, e)
both_equal Greater s e = absurd cc

pub same_place : (p q : PdbInternalSectionOffset)
    → ordering_then (nat_cmp p.section q.section) (nat_cmp p.offset q.offset) ≡ Equal → p ≡ q
same_place p q e =
    let both = both_equal (nat_cmp p.section q.section) (nat_cmp p.offset q.offset) e in
    let section_is = same_number p.section q.section both.0 in
    let offset_is = same_number p.offset q.offset both.1 in
    λ i. record { offset = offset_is i; section = section_is i }

still_named : (n m : Option (List ℕ)) → is_gt (bool_cmp (is_none n) (is_none m)) ≡ false
    → is_some m ≡ true → is_some n ≡ true
still_named None None h named = absurd cc
still_named None (Some y) h named = absurd cc
still_named (Some x) m h named = refl

-- places ascend strictly
pub places_rise : (given : List PublicFunction) (i j : ℕ) (a b : PublicFunction) → i < j
    → slice_get (publics_among given) i ≡ Some a → slice_get (publics_among given) j ≡ Some b
    → IsTrue (is_before a.start_offset b.start_offset)
places_rise given i j a b lt at at' =
    let here : slice_get (firsts place_cmp name_cmp given) i ≡ Some a =
    ap (λ (fs : List PublicFunction). slice_get fs i) (sym (among_is given)) ∙ at in
    let there : slice_get (firsts place_cmp name_cmp given) j ≡ Some b =
    ap (λ (fs : List PublicFunction). slice_get fs j) (sym (among_is given)) ∙ at' in
    before_is a b ∙ rises place_cmp name_cmp place_total name_total given i j a b lt here there

-- at a given entry's place one stands, named if that one is
pub given_stand : (given : List PublicFunction) (k : ℕ) (f : PublicFunction)
    → slice_get given k ≡ Some f → StandsNamed f (publics_among given)
given_stand given k f at =
    let one = found place_cmp name_cmp place_total name_total given k f at in (
      one.0,
      one.1,
      ap (λ (fs : List PublicFunction). slice_get fs one.0) (among_is given) ∙ one.2,
      same_place (one.1).start_offset f.start_offset one.3,
      still_named (one.1).name f.name one.4,
    )
