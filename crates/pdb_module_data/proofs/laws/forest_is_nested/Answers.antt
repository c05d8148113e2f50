use Rattle.pdb_module_data.proofs.NestedSites.{forest_nested_if_read}
use Rattle.pdb_module_data.proofs.laws.forest_is_nested.Goals as goal

pub returns : goal.returns
returns c = forest_nested_if_read
