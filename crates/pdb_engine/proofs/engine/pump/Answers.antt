use Rattle.std.proofs.Common.{rules, ◌∙◌}
use Rattle.pdb_engine.proofs.Faults.{running_later}
use Rattle.pdb_engine.proofs.Pumped.{taken_all, taken_more, taken_too_long, taken_part, taken_before}
use Rattle.pdb_engine.proofs.engine.pump.Goals as goal

pub reads-preserved : goal.reads-preserved
reads-preserved g c = record {
  out = λ known. taken_more _ _ _ _ _ _ _ _ _ _ _ _ _ (c.reads.invariant.out (c.answer_read.ensures.grows known)) c.reads.invariant.same _ _ (c.in-Ok.ensures.ok known);
  room = c.answer_read.ensures.room;
  grows = λ known. c.reads.invariant.grows (c.answer_read.ensures.grows known);
  same = c.answer_read.ensures.same ∙ c.reads.invariant.same;
  subject = c.answer_read.ensures.subject ∙ c.reads.invariant.subject;
  quiet_reader = search rules;
  quiet_writer = search rules;
}

pub returns-in-Ok-eq0-clause-ok : goal.returns-in-Ok-eq0-clause-ok
returns-in-Ok-eq0-clause-ok g c = λ known. taken_all _ _ _ _ _ _ _ _ _ _ _ _ _ (c.reads.invariant.out (c.answer_read.ensures.grows known)) c.reads.invariant.same _ _ (c.in-Ok-eq0.ensures.ok known) (c.in-Ok-eq0.ensures.end c.in-Ok-eq0.field-0-test)

pub returns-in-Err-clause-read_out : goal.returns-in-Err-clause-read_out
returns-in-Err-clause-read_out g c = λ known. taken_before _ g.W.Write.contents _ _ _ _ _ _ _ _ _ _ _ c.in-Err.fault (c.reads.invariant.out (c.answer_read.ensures.grows known)) c.in-Err.ensures.read_once

pub returns-in-Err-clause-too_long : goal.returns-in-Err-clause-too_long
returns-in-Err-clause-too_long g c = λ known. taken_too_long _ _ _ _ _ _ _ _ _ _ _ _ _ (c.reads.invariant.out (c.answer_read.ensures.grows known)) c.reads.invariant.same c.in-Err.fault (c.in-Err.ensures.too_long known)

pub returns-in-Err-clause-part : goal.returns-in-Err-clause-part
returns-in-Err-clause-part g c = λ known. taken_part _ _ _ _ _ _ _ _ _ _ _ _ _ (c.reads.invariant.out (c.answer_read.ensures.grows known)) c.reads.invariant.same (c.in-Err.ensures.part known)

pub returns-in-Err-clause-ends : goal.returns-in-Err-clause-ends
returns-in-Err-clause-ends g c = running_later _ _ _ _ _ _ _ c.reads.invariant.quiet_reader c.reads.invariant.quiet_writer c.in-Err.ensures.ends
