use Rattle.pdb_resolving.proofs.KeptParts.{stands_with}
use Rattle.pdb_resolving.proofs.laws.kept_numbers_stand.Goals as goal

pub returns : goal.returns
returns c = stands_with
