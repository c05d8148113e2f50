use Rattle.pdb_container.proofs.Literal.{is_paged, from_paged}
use Rattle.pdb_container.proofs.laws.paged.Goals as goal

pub returns : goal.returns
returns c = λ file pages bytes size count. (is_paged file pages bytes size count, from_paged file pages bytes size count)
