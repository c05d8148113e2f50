use Rattle.pdb_addresses.proofs.PlaceBack.{there_and_back}
use Rattle.pdb_addresses.proofs.laws.place_and_back.Goals as goal

pub returns : goal.returns
returns c = there_and_back
