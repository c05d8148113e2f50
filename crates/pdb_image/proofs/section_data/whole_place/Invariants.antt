-- What is found from the next section on is what is found among all.
use Rattle.std.proofs.Common.{◌≡◌, map}
use Rattle.pdb_addresses.specs.Sections.{header_in}
use Rattle.pdb_image.specs.Tables.{whole_place_of}
use Rattle.pdb_image.proofs.SectionSteps.{whole_from}
use Rattle.pdb_image.proofs.section_data.whole_place.Given as goal

abbrev pub invariant-loop-header : goal.invariant-loop-header
invariant-loop-header l = whole_from l.address l.size l.sections l.header-index
    ≡ whole_place_of l.address l.size (map header_in l.sections)
