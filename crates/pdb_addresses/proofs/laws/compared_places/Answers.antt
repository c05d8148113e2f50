use Rattle.std.proofs.Common.{ap}
use Rattle.pdb_addresses.specs.declared.section_offset.SectionOffset.{SectionOffset}
use Rattle.pdb_addresses.specs.declared.internal_section_offset.PdbInternalSectionOffset.{
  PdbInternalSectionOffset,
}
use Rattle.pdb_addresses.proofs.ComparedPlaces.{same_section, same_offset, with_itself}
use Rattle.pdb_addresses.proofs.ComparedPlaces.{in_one_section, in_two_sections}
use Rattle.pdb_addresses.proofs.laws.compared_places.Goals as goal

pub returns-clause-image_equal : goal.returns-clause-image_equal
returns-clause-image_equal c a b = (
  λ e. rw (
    same_section a.section a.offset b.section b.offset e,
    same_offset a.section a.offset b.section b.offset e,
  ),
  λ e. with_itself a.section a.offset b.section b.offset (ap (λ (p : SectionOffset). p.section) e)
      (ap (λ (p : SectionOffset). p.offset) e),
)

pub returns-clause-image_none : goal.returns-clause-image_none
returns-clause-image_none c a b = (
  in_one_section a.section a.offset b.section b.offset,
  in_two_sections a.section a.offset b.section b.offset,
)

pub returns-clause-internal_equal : goal.returns-clause-internal_equal
returns-clause-internal_equal c a b = (
  λ e. rw (
    same_section a.section a.offset b.section b.offset e,
    same_offset a.section a.offset b.section b.offset e,
  ),
  λ e. with_itself a.section a.offset b.section b.offset
      (ap (λ (p : PdbInternalSectionOffset). p.section) e)
      (ap (λ (p : PdbInternalSectionOffset). p.offset) e),
)

pub returns-clause-internal_none : goal.returns-clause-internal_none
returns-clause-internal_none c a b = (
  in_one_section a.section a.offset b.section b.offset,
  in_two_sections a.section a.offset b.section b.offset,
)
