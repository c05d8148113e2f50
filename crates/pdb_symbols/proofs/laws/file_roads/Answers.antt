use Rattle.pdb_symbols.proofs.FileRoads.{file_roads}
use Rattle.pdb_symbols.proofs.laws.file_roads.Goals as goal

pub returns : goal.returns
returns c = file_roads
