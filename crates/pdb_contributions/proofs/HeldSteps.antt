-- What modules hold, step by step.
use Rattle.std.proofs.Common.{◌≡◌, ℕ, List, Ok, Err, refl, ap}
use Rattle.std.specs.Prelude.{IsPermutation, IsSorted}
use Rattle.pdb_container.specs.declared.error.Error as container
use Rattle.pdb_container.specs.Fault as container_fault
use Rattle.pdb_container.specs.Fault.{IsOfBytes, ◌>>=◌}
use Rattle.pdb_container.specs.Listing.{Listing}
use Rattle.pdb_addresses.specs.declared.sections.ImageSectionHeader.{ImageSectionHeader}
use Rattle.pdb_symbols_modules.specs.declared.contributions.DBISectionContribution.{
  DBISectionContribution,
}
use Rattle.pdb_symbols_modules.specs.Contributions.{contributions_of}
use Rattle.pdb_resolving.specs.declared.error.Error.{Error}
use Rattle.pdb_resolving.specs.Fault.{lifted, error_of, Fails}
use Rattle.pdb_resolving.proofs.Lifting.{fails_on, parsed_fails_on}
use Rattle.pdb_contributions.specs.MergedContributions.{Held, contribution_cmp, apart, merged_by}
use Rattle.pdb_contributions.specs.MergedContributions.{in_order_apart, held_by, held_of}
use Rattle.pdb_contributions.proofs.Order.{is_in_order}

-- the list of contributions can't be read
pub held_unread : (sections : List ImageSectionHeader) (bytes : List ℕ) (e : container.Error)
    → IsOfBytes e → contributions_of bytes ≡ Err (container_fault.fault_of e)
    → Fails (error_of e) (held_of sections bytes)
unfolding held_of
held_unread sections bytes e of_bytes h =
    parsed_fails_on e (contributions_of bytes) (held_by sections) of_bytes h

held_is : (sections : List ImageSectionHeader) (bytes : List ℕ)
    (entries : Listing DBISectionContribution) → contributions_of bytes ≡ Ok entries
    → held_of sections bytes ≡ (merged_by sections entries >>= in_order_apart)
unfolding held_of held_by
held_is sections bytes entries h = ap (λ r. lifted r >>= held_by sections) h

-- its entries can't be merged
pub held_unmerged : (sections : List ImageSectionHeader) (bytes : List ℕ)
    (entries : Listing DBISectionContribution) (e : Error) → contributions_of bytes ≡ Ok entries
    → Fails e (merged_by sections entries) → Fails e (held_of sections bytes)
held_unmerged sections bytes entries e h fails =
    rw (held_is sections bytes entries h)
    (fails_on e (merged_by sections entries) in_order_apart fails)

-- merged ones, sorted, overlap or don't
held_checked : (sections : List ImageSectionHeader) (bytes : List ℕ)
    (entries : Listing DBISectionContribution) (merged sorted : Held)
    → contributions_of bytes ≡ Ok entries → merged_by sections entries ≡ Ok merged
    → sorted.later_starts ≡ merged.later_starts
    → IsPermutation merged.contributions sorted.contributions
    → IsSorted contribution_cmp sorted.contributions
    → held_of sections bytes ≡ (apart sorted.contributions >>= λ u. Ok sorted)
held_checked sections bytes entries merged sorted h h' same permutation order =
    rw (
      held_is sections bytes entries h,
      h',
      ← is_in_order merged.contributions sorted.contributions permutation order,
      ← same,
    ) refl

-- an overlap among the sorted ones
pub held_overlaps : (sections : List ImageSectionHeader) (bytes : List ℕ)
    (entries : Listing DBISectionContribution) (merged sorted : Held) (e : Error)
    → contributions_of bytes ≡ Ok entries → merged_by sections entries ≡ Ok merged
    → sorted.later_starts ≡ merged.later_starts
    → IsPermutation merged.contributions sorted.contributions
    → IsSorted contribution_cmp sorted.contributions
    → Fails e (apart sorted.contributions) → Fails e (held_of sections bytes)
held_overlaps sections bytes entries merged sorted e h h' same permutation order fails =
    rw (held_checked sections bytes entries merged sorted h h' same permutation order)
    (fails_on e (apart sorted.contributions) (λ u. Ok sorted) fails)

-- none overlaps the one before it
pub held_apart : (sections : List ImageSectionHeader) (bytes : List ℕ)
    (entries : Listing DBISectionContribution) (merged sorted : Held) (u : Unit {0})
    → contributions_of bytes ≡ Ok entries → merged_by sections entries ≡ Ok merged
    → sorted.later_starts ≡ merged.later_starts
    → IsPermutation merged.contributions sorted.contributions
    → IsSorted contribution_cmp sorted.contributions
    → apart sorted.contributions ≡ Ok u → held_of sections bytes ≡ Ok sorted
held_apart sections bytes entries merged sorted u h h' same permutation order free =
    rw (held_checked sections bytes entries merged sorted h h' same permutation order, free) refl
