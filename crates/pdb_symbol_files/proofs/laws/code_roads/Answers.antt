use Rattle.pdb_symbol_files.proofs.PlainAlong.{code_roads}
use Rattle.pdb_symbol_files.proofs.laws.code_roads.Goals as goal

pub returns : goal.returns
returns c = code_roads
