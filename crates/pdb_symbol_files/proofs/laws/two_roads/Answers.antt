use Rattle.pdb_symbol_files.proofs.laws.two_roads.Goals as goal
use Rattle.pdb_symbol_files.proofs.SameGroups.{two_roads}

pub returns : goal.returns
returns c = two_roads
