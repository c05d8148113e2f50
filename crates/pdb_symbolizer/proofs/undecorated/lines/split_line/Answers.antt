use Rattle.pdb_symbolizer.proofs.LineSteps.{line_split}
use Rattle.pdb_symbolizer.proofs.undecorated.lines.split_line.Goals as goal

pub returns-then-count-text : goal.returns-then-count-text
returns-then-count-text c = line_split c.args.kind c.args.text.now c.line_length-count.result
    c.line_length-count.ensures.is c.if-count-text.true
