use Rattle.pdb_pieces.proofs.Greatest.{greatest, none_over}
use Rattle.pdb_pieces.proofs.laws.best_is_greatest.Goals as goal

pub returns-clause-greatest : goal.returns-clause-greatest
returns-clause-greatest c = greatest

pub returns-clause-none : goal.returns-clause-none
returns-clause-none c = none_over
