use Rattle.pdb_container.proofs.Tails.{same_layout, same_streams}
use Rattle.pdb_container.proofs.laws.tail_of_no_stream.Goals as goal

pub returns-clause-opens : goal.returns-clause-opens
returns-clause-opens c = same_layout

pub returns-clause-streams : goal.returns-clause-streams
returns-clause-streams c = same_streams
