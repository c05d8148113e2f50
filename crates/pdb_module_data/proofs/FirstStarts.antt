-- Of the procedures that are taken the first of each start counts.
use Rattle.std.proofs.Common.{◌≡◌, ℕ, ◌<◌, Bool, true, false, cond, List, [], ◌∷◌, ◌++◌, length, get_or, Option, Some, None, refl, sym, ap, ◌∙◌, subst, arith, append_assoc, length-append}
use Rattle.std.specs.Prelude.{if◌then◌else◌}
use Rattle.std.specs.List.{All, AllPairs, IsDistinct, find}
use Rattle.std.specs.Option.{option_or}
use Rattle.std.proofs.lemmas.Bool.Decides.{nat_tests}
use Rattle.std.proofs.lemmas.List.{append-nil}
use Rattle.std.proofs.lemmas.List.Elements.{All-push}
use Rattle.std.proofs.lemmas.List.Folds.{find-append, position_or_len_push}
use Rattle.std.proofs.lemmas.List.Quantifiers.{all_pairs_push}
use Rattle.std.proofs.lemmas.Map.Keys.{IsDistinct-from_apart}
use Rattle.pdb_addresses.specs.declared.internal_section_offset.PdbInternalSectionOffset.{PdbInternalSectionOffset}
use Rattle.pdb_module_data.specs.Procedures.{Procedure, is_at, has_start, onto_new, firsts_onto, first_number}

-- the first procedure that begins there
abbrev first_at : List Procedure → PdbInternalSectionOffset → Option Procedure
first_at procedures p = find (λ q. is_at q.offset p) procedures

-- each begins where a procedure was taken
abbrev AreWithin : List Procedure → List Procedure → Type 0
AreWithin taken firsts = All (λ q. first_number taken q.offset < length taken) firsts

-- they stand in the order in which they were taken
abbrev AreInOrder : List Procedure → List Procedure → Type 0
AreInOrder taken firsts = AllPairs (λ a b. first_number taken a.offset < first_number taken b.offset) firsts

-- of the procedures that were taken these are the first of each start, in their order
record AreFirsts (taken firsts : List Procedure) : Type 0 where
  first : (p : PdbInternalSectionOffset) → first_at firsts p ≡ first_at taken p
  within : AreWithin taken firsts
  order : AreInOrder taken firsts

-- ---- places

is_at_itself : (p : PdbInternalSectionOffset) → is_at p p ≡ true
is_at_itself p = grind (arith, nat_tests)

place_at : ℕ → ℕ → PdbInternalSectionOffset
place_at section offset = record { section = section; offset = offset }

-- equal places are one
one_place : (a b : PdbInternalSectionOffset) → is_at a b ≡ true → a ≡ b
unfolding place_at
one_place a b h =
    let section : a.section ≡ b.section = grind (arith, nat_tests) in
    let offset : a.offset ≡ b.offset = grind (arith, nat_tests) in
    ap (λ s. place_at s a.offset) section ∙ ap (place_at b.section) offset

-- ---- a search among procedures

-- where one begins, others after it change nothing
found : (procedures : List Procedure) (p : PdbInternalSectionOffset) (other : Option Procedure) → has_start procedures p ≡ true → first_at procedures p ≡ option_or (first_at procedures p) other
found [] p other h = cc
found (q ∷ procedures) p other h = grind (arith, found procedures p other)

-- where none begins, none is found
not_found : (procedures : List Procedure) (p : PdbInternalSectionOffset) → has_start procedures p ≡ false → first_at procedures p ≡ None
not_found [] p h = refl
not_found (q ∷ procedures) p h = grind (arith, not_found procedures p)

-- and the number is that after the last
last_number : (procedures : List Procedure) (p : PdbInternalSectionOffset) → first_at procedures p ≡ None → first_number procedures p ≡ length procedures
last_number [] p h = refl
last_number (q ∷ procedures) p h = grind (arith, last_number procedures p)

-- what begins among procedures has the same number with one more
same_number : (taken : List Procedure) (q : Procedure) (p : PdbInternalSectionOffset) → first_number taken p < length taken → first_number (taken ++ q ∷ []) p ≡ first_number taken p
same_number taken q p h = let e = position_or_len_push (λ r. is_at r.offset p) taken q in grind (arith, nat_tests)

-- one more of a new start has the last number
new_number : (taken : List Procedure) (q : Procedure) → first_at taken q.offset ≡ None → first_number (taken ++ q ∷ []) q.offset ≡ length taken
new_number taken q h =
    let e = position_or_len_push (λ r. is_at r.offset q.offset) taken q in
    let l = last_number taken q.offset h in
    let i = is_at_itself q.offset in
    grind (arith, nat_tests)

-- ---- one more procedure

module _ (taken firsts : List Procedure) (q : Procedure) (so_far : AreFirsts taken firsts) where
  same : (k : ℕ) (d : Procedure) → k < length firsts → first_number (taken ++ q ∷ []) (get_or firsts k d).offset ≡ first_number taken (get_or firsts k d).offset
  same k d h = same_number taken q (get_or firsts k d).offset (so_far.within k d h)

  within_more : AreWithin (taken ++ q ∷ []) firsts
  within_more k d h = omega (arith, same k d h, so_far.within k d h, length-append taken (q ∷ []))

  order_more : AreInOrder (taken ++ q ∷ []) firsts
  order_more i j d l h = omega (arith, same i d (omega arith), same j d h, so_far.order i j d l h)

  -- the first that begins there, with one more of those that are taken
  first_more : (p : PdbInternalSectionOffset) → option_or (first_at firsts p) (first_at (q ∷ []) p) ≡ first_at (taken ++ q ∷ []) p
  first_more p = ap (λ f. option_or f (first_at (q ∷ []) p)) (so_far.first p) ∙ sym (find-append (λ r. is_at r.offset p) taken (q ∷ []))

  first_passed : has_start firsts q.offset ≡ true → (p : PdbInternalSectionOffset) (here : Bool) → is_at q.offset p ≡ here → first_at firsts p ≡ option_or (first_at firsts p) (cond here (Some q) None)
  first_passed there p true h = found firsts p (Some q) (subst (λ x. has_start firsts x ≡ true) (one_place q.offset p h) there)
  first_passed there p false h = elim (first_at firsts p) as (λ f. f ≡ option_or f None) [ None ↦ refl | Some f ↦ refl ]

  -- one begins there already
  passed : has_start firsts q.offset ≡ true → AreFirsts (taken ++ q ∷ []) firsts
  passed there = record {
    first = λ p. first_passed there p (is_at q.offset p) refl ∙ first_more p;
    within = within_more;
    order = order_more;
  }

  -- none does
  added : has_start firsts q.offset ≡ false → AreFirsts (taken ++ q ∷ []) (firsts ++ q ∷ [])
  added new =
      let last : first_number (taken ++ q ∷ []) q.offset ≡ length taken = new_number taken q (sym (so_far.first q.offset) ∙ not_found firsts q.offset new) in
      let more = length-append taken (q ∷ []) in
      record {
        first = λ p. find-append (λ r. is_at r.offset p) firsts (q ∷ []) ∙ first_more p;
        within = All-push (λ a. first_number (taken ++ q ∷ []) a.offset < length (taken ++ q ∷ [])) firsts q within_more (omega arith);
        order = all_pairs_push (λ a b. first_number (taken ++ q ∷ []) a.offset < first_number (taken ++ q ∷ []) b.offset) firsts q order_more (λ k d h. omega (arith, same k d h, so_far.within k d h));
      }

  one_more : (there : Bool) → has_start firsts q.offset ≡ there → AreFirsts (taken ++ q ∷ []) (if there then firsts else firsts ++ q ∷ [])
  one_more true there = passed there
  one_more false new = added new

-- ---- all procedures

all_more : (taken firsts left : List Procedure) → AreFirsts taken firsts → AreFirsts (taken ++ left) (firsts_onto firsts left)
all_more taken firsts [] so_far = rw (append-nil taken) so_far
all_more taken firsts (q ∷ left) so_far =
    rw (← append_assoc taken (q ∷ []) left) (all_more (taken ++ q ∷ []) (onto_new firsts q) left (one_more taken firsts q so_far (has_start firsts q.offset) refl))

are_firsts : (taken : List Procedure) → AreFirsts taken (firsts_onto [] taken)
are_firsts taken = all_more [] [] taken record { first = λ p. refl; within = λ k d h. absurd (omega arith); order = λ i j d l h. absurd (omega arith) }

-- what begins at a place is the first that begins there
pub first_is : (taken : List Procedure) (p : PdbInternalSectionOffset) → find (λ q. is_at q.offset p) (firsts_onto [] taken) ≡ find (λ q. is_at q.offset p) taken
first_is taken p = (are_firsts taken).first p

-- in the order in which they were taken
pub order_is : (taken : List Procedure) → AllPairs (λ a b. first_number taken a.offset < first_number taken b.offset) (firsts_onto [] taken)
order_is taken = (are_firsts taken).order

apart : (taken : List Procedure) (a b : Procedure) (there : Bool) → is_at a.offset b.offset ≡ there → first_number taken a.offset < first_number taken b.offset → there ≡ false
apart taken a b true e h = let same = ap (first_number taken) (one_place a.offset b.offset e) in absurd (omega arith)
apart taken a b false e h = refl

-- no two begin at one place
pub once_is : (taken : List Procedure) → IsDistinct (λ a b. is_at a.offset b.offset) (firsts_onto [] taken)
once_is taken = IsDistinct-from_apart (λ a b. is_at a.offset b.offset) (firsts_onto [] taken)
    (λ i j d l h. apart taken (get_or (firsts_onto [] taken) i d) (get_or (firsts_onto [] taken) j d) _ refl (order_is taken i j d l h))
