use Rattle.pdb_resolving.proofs.KeptParts.{own_numbers}
use Rattle.pdb_resolving.proofs.laws.places_have_own_numbers.Goals as goal

pub returns : goal.returns
returns c = own_numbers
