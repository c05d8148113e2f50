use Rattle.pdb_symbols.proofs.NamedSteps.{named_line}
use Rattle.pdb_symbols.proofs.undecorated.append_line.Goals as goal

pub returns : goal.returns
returns c = named_line c.args.line.now c.name_of-name.result.now c.saturating_sub-start.result
    c.args.output.now.items _ _ _ c.name_of-name.ensures c.saturating_sub-start.ensures
    c.in_ok-extend_from_slice.ensures.items c.in_ok-append_name.ensures c.in_ok-push.ensures.items
