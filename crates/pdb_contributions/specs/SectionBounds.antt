-- The starts and ends of contributions in one section.
use Rattle.std.specs.Prelude.{ℕ, Bool, ◌==◌, List, [], ◌∷◌, Option, None, Some, if◌then◌else◌}
use Rattle.pdb_addresses.specs.declared.internal_section_offset.PdbInternalSectionOffset.{
  PdbInternalSectionOffset,
}
use Rattle.pdb_contributions.specs.declared.contribution.ModuleSectionContribution.{
  ModuleSectionContribution,
}

-- a start and an end, if they lie in the section that is asked for
abbrev pub if_there : Bool → ℕ → ℕ → List ℕ
if_there same start end = if same then start ∷ end ∷ [] else []

-- the start and the end of a contribution, if it lies in the section of a place
abbrev pub contribution_bounds : PdbInternalSectionOffset → ModuleSectionContribution → List ℕ
contribution_bounds p c = if_there (c.section_index == p.section) c.start_offset c.end_offset

-- the same of one contribution or none
abbrev pub bounds_of_one : PdbInternalSectionOffset → Option ModuleSectionContribution → List ℕ
bounds_of_one p None = []
bounds_of_one p (Some c) = contribution_bounds p c
