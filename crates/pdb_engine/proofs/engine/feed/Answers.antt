use Rattle.std.proofs.Common.{ap, ◌∙◌}
use Rattle.pdb_engine.specs.Requests.{lines_of}
use Rattle.pdb_engine.proofs.RequestSteps.{part_same}
use Rattle.pdb_engine.proofs.engine.feed.Goals as goal

pub returns-clause-part : goal.returns-clause-part
returns-clause-part g c = λ known. part_same c.write_answers.result _ _ _ _ _ _ (c.answer_ahead.ensures.same ∙ c.prepare.ensures.same)
    (ap (lines_of g.A.Start.LineStart.kept) c.deref-2.ensures.value ∙ c.answer_ahead.ensures.lines ∙ c.in-Ok.ensures.lines) (c.write_answers.ensures.part known)
