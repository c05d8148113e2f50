use Rattle.pdb_module_data.proofs.FirstStarts.{first_is, once_is, order_is}
use Rattle.pdb_module_data.proofs.laws.first_of_each_start.Goals as goal

pub returns : goal.returns
returns c = record { first = first_is; once = once_is; order = order_is }
