use Rattle.pdb_image.proofs.Law.{is_unwound}
use Rattle.pdb_image.proofs.laws.unwinding.Goals as goal

pub returns : goal.returns
returns c = is_unwound
