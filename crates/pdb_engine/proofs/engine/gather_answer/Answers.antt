use Rattle.pdb_engine.proofs.LineLemmas.{front_of_same}
use Rattle.pdb_engine.proofs.engine.gather_answer.Goals as goal

pub returns-in_default-clause-part : goal.returns-in_default-clause-part
returns-in_default-clause-part g c = λ known.
    front_of_same _ _ _ _ _ c.in_default.ensures.refused (c.write_last.ensures.part _)
