use Rattle.pdb_container.proofs.Alike.{same_stream, same_streams}
use Rattle.pdb_container.proofs.laws.page_layout.Goals as goal

pub returns-clause-at_one_number : goal.returns-clause-at_one_number
returns-clause-at_one_number c = same_stream

pub returns-clause-at_every_number : goal.returns-clause-at_every_number
returns-clause-at_every_number c = same_streams
