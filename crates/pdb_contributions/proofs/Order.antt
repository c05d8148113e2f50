-- Contributions that were sorted are those in order: only equal ones compare as Equal.
use Rattle.std.proofs.Common.{◌≡◌, ℕ, List, refl, sym}
use Rattle.std.specs.Prelude.{IsPermutation, IsSorted}
use Rattle.std.specs.Cmp.{IsTotalOrder}
use Rattle.std.specs.declared.cmp.Ordering.{Ordering}
use Rattle.std.specs.declared.cmp.Ordering.TheVariants.{Less, Equal, Greater}
use Rattle.std.specs.Ordering.{nat_cmp, ordering_then}
use Rattle.std.proofs.lemmas.Cmp.{ranked, nat_cmp_total, on_total, then_total}
use Rattle.pdb_addresses.specs.InOrder.{in_order}
use Rattle.pdb_addresses.proofs.Stable.{is_in_order_of_equals}
use Rattle.pdb_contributions.specs.declared.contribution.ModuleSectionContribution.{
  ModuleSectionContribution,
}
use Rattle.pdb_contributions.specs.MergedContributions.{contribution_cmp}

-- the order of contributions is total
total : IsTotalOrder contribution_cmp
total =
    then_total (on_total (λ (c : ModuleSectionContribution). c.section_index) nat_cmp_total)
    (then_total (on_total (λ (c : ModuleSectionContribution). c.start_offset) nat_cmp_total)
    (then_total (on_total (λ (c : ModuleSectionContribution). c.end_offset) nat_cmp_total)
    (on_total (λ (c : ModuleSectionContribution). c.module_index) nat_cmp_total)))

-- two answers one after another are Equal if both are
both_equal : (r s : Ordering) → ordering_then r s ≡ Equal → (r ≡ Equal) × (s ≡ Equal)
both_equal Less s e = absurd cc
both_equal Equal s e = (refl, e)
both_equal Greater s e = absurd cc

same_number : (x y : ℕ) → nat_cmp x y ≡ Equal → x ≡ y
same_number x y e = ranked x y Equal (sym e)

-- contributions that compare as Equal are the same
same : (a b : ModuleSectionContribution) → contribution_cmp a b ≡ Equal → a ≡ b
same a b e =
    let first = both_equal (nat_cmp a.section_index b.section_index)
    (ordering_then (nat_cmp a.start_offset b.start_offset)
    (ordering_then (nat_cmp a.end_offset b.end_offset) (nat_cmp a.module_index b.module_index)))
    e in
    let second = both_equal (nat_cmp a.start_offset b.start_offset)
    (ordering_then (nat_cmp a.end_offset b.end_offset) (nat_cmp a.module_index b.module_index))
    first.1 in
    let third = both_equal (nat_cmp a.end_offset b.end_offset)
    (nat_cmp a.module_index b.module_index) second.1 in
    let section_is = same_number a.section_index b.section_index first.0 in
    let start_is = same_number a.start_offset b.start_offset second.0 in
    let end_is = same_number a.end_offset b.end_offset third.0 in
    let module_is = same_number a.module_index b.module_index third.1 in
    λ i. record {
      section_index = section_is i;
      start_offset = start_is i;
      end_offset = end_is i;
      module_index = module_is i;
    }

-- contributions that were sorted are those in order
pub is_in_order : (xs ys : List ModuleSectionContribution) → IsPermutation xs ys
    → IsSorted contribution_cmp ys → ys ≡ in_order contribution_cmp xs
is_in_order = is_in_order_of_equals contribution_cmp total same
