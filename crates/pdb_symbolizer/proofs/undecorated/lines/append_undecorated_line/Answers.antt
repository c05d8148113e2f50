use Rattle.pdb_symbolizer.proofs.LineSteps.{named_line}
use Rattle.pdb_symbolizer.proofs.undecorated.lines.append_undecorated_line.Goals as goal

pub returns : goal.returns
returns c = named_line c.args.kind c.args.line.now c.args.end c.name_start-start.result
    c.name_length.result c.args.output.now.items _ _ _ _ c.name_start-start.ensures.is
    c.name_start-start.ensures.within c.name_length.ensures.is c.in_ok-extend_from_slice.ensures.items
    c.in_ok-append_name_in.ensures c.in_ok-extend_from_slice-2.ensures.items
    c.in_ok-push.ensures.items
