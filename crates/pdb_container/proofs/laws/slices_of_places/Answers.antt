use Rattle.pdb_container.proofs.ApartSlices.{one_list}
use Rattle.pdb_container.proofs.laws.slices_of_places.Goals as goal

pub returns : goal.returns
returns c = one_list
