use Rattle.pdb_lines.proofs.Steps.{not_ended}
use Rattle.pdb_lines.proofs.inlinee_line_iterator.InlineeLineIteratorFallibleIterator.next.Goals as goal

pub returns-in-Some-clause-ended : goal.returns-in-Some-clause-ended
returns-in-Some-clause-ended c = λ none.
    let here = rw c.in-Ok-Some.field-0-is at c.in-Ok-Some.ensures.step in
    let state = c.loop-annotation.self-inside in
    absurd (not_ended state.origin c.pass_annotation.new.origin state.waiting
    c.pass_annotation.new.waiting c.pass_annotation.result
    c.in-Some.row c.in-Ok-Some.annotation state.annotations c.next.new.self c.args.self.now
    here c.loop-annotation.invariant c.in-Some.is
    (rw c.in-Ok-Some.annotation-is at (c.pass_annotation.ensures.rows c.next.new.self.items)) none)
