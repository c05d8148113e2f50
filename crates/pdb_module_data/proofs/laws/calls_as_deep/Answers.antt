use Rattle.pdb_module_data.proofs.CallsDeep.{as_deep, depth_by_number}
use Rattle.pdb_module_data.proofs.laws.calls_as_deep.Goals as goal

pub returns : goal.returns
returns c = record { calls = as_deep; depth = depth_by_number }
