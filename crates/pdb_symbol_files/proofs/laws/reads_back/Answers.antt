use Rattle.pdb_symbol_files.proofs.laws.reads_back.Goals as goal
use Rattle.pdb_symbol_files.proofs.ReadBack.{reads_back}

pub returns : goal.returns
returns c = reads_back
