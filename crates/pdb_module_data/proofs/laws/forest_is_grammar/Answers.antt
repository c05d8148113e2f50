use Rattle.pdb_module_data.proofs.ForestGrammar.{forest_is, forest_from}
use Rattle.pdb_module_data.proofs.laws.forest_is_grammar.Goals as goal

pub returns : goal.returns
returns c = λ bytes limit start sites. (forest_is bytes limit start sites, forest_from bytes limit start sites)
