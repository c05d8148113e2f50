use Rattle.pdb_container.proofs.Limits.{is_limited}
use Rattle.pdb_container.proofs.laws.limited.Goals as goal

pub returns : goal.returns
returns c = is_limited
