use Rattle.pdb_symbol_records.proofs.Lists.{next_steps}
use Rattle.pdb_symbol_records.proofs.laws.next_by_one_step.Goals as goal

pub returns : goal.returns
returns c = next_steps
