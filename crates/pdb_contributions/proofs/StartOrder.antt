-- Places brought into order, each once.
use Rattle.std.proofs.Common.{◌≡◌, ℕ, inl, inr, List, [], ◌∷◌, refl, sym, ap, subst, ◌∙◌}
use Rattle.std.specs.Prelude.{IsSorted, IsPermutation}
use Rattle.std.specs.Cmp.{IsTotalOrder}
use Rattle.std.specs.declared.cmp.Ordering.{Ordering}
use Rattle.std.specs.declared.cmp.Ordering.TheVariants.{Less, Equal, Greater}
use Rattle.std.specs.Ordering.{nat_cmp, is_lt, ordering_then, then_cmp}
use Rattle.std.specs.List.{dedup}
use Rattle.std.specs.List.Sorted.{IsSortedBy}
use Rattle.std.proofs.lemmas.Bool.{cases_Bool}
use Rattle.std.proofs.lemmas.Cmp.{nat_cmp_total, on_total, then_total}
use Rattle.pdb_addresses.specs.declared.internal_section_offset.PdbInternalSectionOffset.{
  PdbInternalSectionOffset,
}
use Rattle.pdb_addresses.proofs.Stable.{is_in_order_of_equals}
use Rattle.pdb_contributions.specs.Publics.{placeholder, placeholders, publics_among}
use Rattle.pdb_contributions.proofs.Firsts.{same, entered, firsts, firsts_are}
use Rattle.pdb_contributions.proofs.OnePlace.{both_equal, same_place}
use Rattle.pdb_contributions.proofs.PublicOrder.{place_cmp, name_cmp, among_is}

abbrev Place : Type 0
Place = PdbInternalSectionOffset

-- what places are sorted by
abbrev pub key : Place → ℕ × ℕ
key p = (p.section, p.offset)

-- by the section's number, and then by the offset
abbrev pub by_place : Place → Place → Ordering
by_place p q = ordering_then (nat_cmp p.section q.section) (nat_cmp p.offset q.offset)

-- no place is preferred to another one
abbrev pub alike : Place → Place → Ordering
alike p q = nat_cmp 0 0

by_place_total : IsTotalOrder by_place
by_place_total = then_total (on_total (λ (p : Place). p.section) nat_cmp_total)
    (on_total (λ (p : Place). p.offset) nat_cmp_total)

alike_total : IsTotalOrder alike
alike_total = on_total (λ (p : Place). 0) nat_cmp_total

alone : (r : Ordering) → is_lt r ≡ is_lt (ordering_then r Equal)
alone Less = refl
alone Equal = refl
alone Greater = refl

entered_is : (p : Place) (ps : List Place) → placeholders (entered by_place alike p ps)
    ≡ entered place_cmp name_cmp (placeholder p) (placeholders ps)
entered_is p [] = refl
entered_is p (q ∷ ps) = elim (cases_Bool (is_lt (by_place p q))) [
  | inl h ↦ rw h refl
  | inr h ↦ elim (cases_Bool (is_lt (by_place q p))) [
    | inl h' ↦ rw (h, h') (ap (λ xs. placeholder q ∷ xs) (entered_is p ps))
    | inr h' ↦ rw (h, h') refl
  ]
]

firsts_is : (ps : List Place)
    → placeholders (firsts by_place alike ps) ≡ firsts place_cmp name_cmp (placeholders ps)
firsts_is [] = refl
firsts_is (p ∷ ps) = entered_is p (firsts by_place alike ps)
    ∙ ap (entered place_cmp name_cmp (placeholder p)) (firsts_is ps)

-- sorted, and then the first of each place
pub places_once : (xs ys zs : List Place) → IsPermutation xs ys → IsSorted by_place ys
    → zs ≡ dedup (same by_place alike) ys
    → placeholders zs ≡ publics_among (placeholders xs)
places_once xs ys zs moved sorted is =
    let in_both : IsSorted (then_cmp by_place alike) ys =
    subst (λ lt. IsSortedBy lt ys) (λ i p q. alone (by_place p q) i) sorted in
    ap placeholders (is ∙ ap (dedup (same by_place alike))
    (is_in_order_of_equals (then_cmp by_place alike) (then_total by_place_total alike_total)
    (λ p q e. same_place p q (both_equal (by_place p q) Equal e).0) xs ys moved in_both)
    ∙ firsts_are by_place alike by_place_total alike_total xs)
    ∙ firsts_is xs ∙ sym (among_is (placeholders xs))
