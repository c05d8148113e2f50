use Rattle.std.proofs.Common.{rules}
use Rattle.pdb_engine.proofs.RequestSteps.{answered_set, lines_set, last_more}
use Rattle.pdb_engine.proofs.requests.answer_numbered.Goals as goal

pub returns-in-Some-clause-lines : goal.returns-in-Some-clause-lines
returns-in-Some-clause-lines g c = lines_set _ _ _ _ c.in-Some.request.now (search rules)

pub returns-in-Some-clause-last : goal.returns-in-Some-clause-last
returns-in-Some-clause-last g c =
    last_more c.answer_request.result _ _ _ _ c.in-Some.request.now c.answer_request.new.request (search rules) (search rules) c.answer_request.ensures.room c.answer_request.ensures.makes_none c.answer_request.ensures.refused

pub returns-in-Some-clause-answered : goal.returns-in-Some-clause-answered
returns-in-Some-clause-answered g c =
    answered_set (g.A.Answers.known c.args.answers.now) (g.A.Answers.known c.answer_request.new.answers) g.A.Start.LineStart.kept (g.A.Answers.text c.args.answers.now) c.args.texts.now.items c.answer_request.new.texts.items c.args.requests.now.items c.args.index c.answer_request.new.request c.answer_request.ensures.grows c.answer_request.ensures.grown c.requires c.answer_request.ensures.answered
