use Rattle.pdb_contributions.proofs.FirstEntry.{hold_by_first}
use Rattle.pdb_contributions.proofs.laws.first_entry_holds.Goals as goal

pub returns : goal.returns
returns c = hold_by_first
