use Rattle.pdb_symbolizer.proofs.LineSteps.{one_more}
use Rattle.pdb_symbolizer.proofs.undecorated.lines.append_lines.Goals as goal

pub loop-line-preserved : goal.loop-line-preserved
loop-line-preserved c = one_more c.args.kind c.args.text.now c.loop-line.rest.now c.in-Some.line.now
    c.in-Some.end c.in-Some.after.now c.args.output.now.items c.loop-line.output.items
    c.append_undecorated_line.new.output.items c.loop-line.invariant c.in-Some.ensures
    c.in_ok-append_undecorated_line.ensures
