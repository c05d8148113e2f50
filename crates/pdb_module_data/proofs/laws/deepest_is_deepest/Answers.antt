use Rattle.pdb_module_data.proofs.Deepest.{deepest_is, none_is}
use Rattle.pdb_module_data.proofs.laws.deepest_is_deepest.Goals as goal

pub returns : goal.returns
returns c = record { deepest = deepest_is; none = none_is }
