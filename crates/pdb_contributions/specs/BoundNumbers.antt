-- Bounds in sections as numbers in one row, so that they can be sorted and searched.
use Rattle.std.specs.Prelude.{ℕ, ◌+◌, ◌-◌, ◌*◌, ◌^◌, min, List, [], ◌∷◌}
use Rattle.std.specs.List.{flat_map}
use Rattle.pdb_addresses.specs.SectionOrder.{AreInOrder}
use Rattle.pdb_contributions.specs.declared.contribution.ModuleSectionContribution.{
  ModuleSectionContribution,
}

-- A bound's number: each section has 2^34 of them, so that no number of another section is as near
-- as 32 bits reach.
abbrev pub bound_number : ℕ → ℕ → ℕ
bound_number section offset = section * 2 ^ 34 + min offset (2 ^ 34 - 1)

-- the numbers of a start and an end in a section
abbrev pub numbers_of : ℕ → ℕ → ℕ → List ℕ
numbers_of section start end = bound_number section start ∷ bound_number section end ∷ []

-- the numbers of a contribution's start and end
abbrev pub contribution_numbers : ModuleSectionContribution → List ℕ
contribution_numbers c = numbers_of c.section_index c.start_offset c.end_offset

-- these are the numbers of contributions' starts and ends, in ascending order
abbrev pub AreContributionBounds : List ModuleSectionContribution → List ℕ → Type 0
AreContributionBounds contributions numbers =
    AreInOrder (flat_map contribution_numbers contributions) numbers
