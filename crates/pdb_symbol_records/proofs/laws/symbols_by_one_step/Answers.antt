use Rattle.pdb_symbol_records.proofs.Lists.{symbols_steps}
use Rattle.pdb_symbol_records.proofs.laws.symbols_by_one_step.Goals as goal

pub returns : goal.returns
returns c = symbols_steps
