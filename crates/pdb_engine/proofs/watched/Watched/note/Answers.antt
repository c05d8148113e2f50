use Rattle.std.proofs.Common.{refl}
use Rattle.pdb_engine.proofs.watched.Watched.note.Goals as goal

pub returns-clause-fails : goal.returns-clause-fails
returns-clause-fails g c = record { rose = c.saturating_add-self.ensures; kind_kept = refl }
