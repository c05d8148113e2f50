-- What is found from the next section on is what is found among all.
use Rattle.std.proofs.Common.{◌≡◌, map}
use Rattle.pdb_addresses.specs.Sections.{header_in}
use Rattle.pdb_image.specs.CodeView.{place_of}
use Rattle.pdb_image.proofs.SectionSteps.{place_from}
use Rattle.pdb_image.proofs.code_view.file_place.Given as goal

abbrev pub invariant-loop-header : goal.invariant-loop-header
invariant-loop-header l = place_from l.address l.sections l.header-index
    ≡ place_of l.address (map header_in l.sections)
