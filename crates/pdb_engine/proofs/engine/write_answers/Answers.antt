use Rattle.std.proofs.Common.{rules, arith, ◌∙◌}
use Rattle.std.proofs.lemmas.Result.{err_from_is_err_and}
use Rattle.pdb_engine.proofs.LineLemmas.{on_err}
use Rattle.pdb_engine.proofs.Faults.{quiet_end, write_end, writing_later}
use Rattle.pdb_engine.proofs.RequestSteps.{answered_now, out_last, out_more, part_more, part_last}
use Rattle.pdb_engine.proofs.engine.write_answers.Goals as goal

pub returns-in_err-gather_answer-clause-part : goal.returns-in_err-gather_answer-clause-part
returns-in_err-gather_answer-clause-part g c = λ known.
    on_err c.from_residual.result (part_more _ _ _ _ _ _ _ _ c.loop-request.request-index c.request-item.result c.loop-request-test.true (search rules) c.loop-request.invariant.same (c.loop-request.invariant.out (c.gather_answer.ensures.grows known)) (c.in_err-gather_answer.ensures.part known))

pub loop-request-preserved : goal.loop-request-preserved
loop-request-preserved g c = record {
  out = λ known. out_more _ _ _ _ _ _ _ _ _ c.loop-request.request-index c.request-item.result c.loop-request-test.true (search rules) c.loop-request.invariant.same (c.loop-request.invariant.out (c.gather_answer.ensures.grows known)) (c.in_ok-gather_answer.ensures.ok known);
  grows = λ known. c.loop-request.invariant.grows (c.gather_answer.ensures.grows known);
  same = c.gather_answer.ensures.same ∙ c.loop-request.invariant.same;
  subject = c.gather_answer.ensures.subject ∙ c.loop-request.invariant.subject;
  quiet = search rules;
}

pub returns-clause-part : goal.returns-clause-part
returns-clause-part g c = λ known. part_last _ c.write_pending.result _ _ _ _ _ c.args.requests.now c.loop-request.request-index (omega arith) (c.loop-request.invariant.out known) c.write_pending.ensures.part

pub returns-clause-ok : goal.returns-clause-ok
returns-clause-ok g c = λ known. out_last _ c.write_pending.result _ _ _ _ _ c.args.requests.now c.loop-request.request-index (omega arith) (c.loop-request.invariant.out known) c.write_pending.ensures.ok

pub returns-clause-quiet : goal.returns-clause-quiet
returns-clause-quiet g c = quiet_end c.write_pending.result _ _ _ c.loop-request.invariant.quiet c.write_pending.ensures.quiet

pub returns-clause-ends : goal.returns-clause-ends
returns-clause-ends g c = write_end c.write_pending.result _ _ _ c.loop-request.invariant.quiet c.write_pending.ensures.ends

pub returns-in_err-gather_answer-clause-ends : goal.returns-in_err-gather_answer-clause-ends
returns-in_err-gather_answer-clause-ends g c =
    let p = err_from_is_err_and c.from_residual.result c.from_residual.ensures.1 in
    rw (p.1, p.2) (writing_later _ _ _ _ c.loop-request.invariant.quiet c.in_err-gather_answer.ensures.ends)

pub gather_answer-requires : goal.gather_answer-requires
gather_answer-requires g c =
    answered_now (g.A.Answers.known c.args.answers.now) (g.A.Answers.known c.loop-request.answers) g.A.Start.LineStart.kept (g.A.Answers.text c.args.answers.now) (g.A.Answers.text c.loop-request.answers) c.args.texts.now c.args.requests.now c.loop-request.request-index c.request-item.result c.loop-request.invariant.grows c.loop-request.invariant.same (search rules) (search rules) c.requires
