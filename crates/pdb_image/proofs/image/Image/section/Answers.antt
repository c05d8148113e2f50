use Rattle.std.proofs.Common.{arith}
use Rattle.pdb_image.proofs.SectionSteps.{section_at}
use Rattle.pdb_image.proofs.image.Image.section.Goals as goal

pub returns : goal.returns
returns c = grind (arith, section_at)
