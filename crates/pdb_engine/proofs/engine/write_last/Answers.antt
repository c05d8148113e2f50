use Rattle.pdb_engine.proofs.LineLemmas.{front_of_more}
use Rattle.pdb_engine.proofs.engine.write_last.Goals as goal

pub returns-in-Err-clause-part : goal.returns-in-Err-clause-part
returns-in-Err-clause-part g c = λ more. front_of_more _ _ _ more c.in-Err.ensures.part
