use Rattle.std.proofs.Common.{arith}
use Rattle.pdb_engine.proofs.LineStarts.{one_more, no_more}
use Rattle.pdb_engine.proofs.line_start.LongStartLineStart.push.Goals as goal

pub returns-in_ok-push : goal.returns-in_ok-push
returns-in_ok-push c =
    one_more 4352 c.args.byte c.args.self.now c.self.inside.bytes.items c.push.new.self.items c.self.view_is (omega arith) c.in_ok-push.ensures.items

pub returns-else-len-lt4352 : goal.returns-else-len-lt4352
returns-else-len-lt4352 c =
    no_more 4352 c.args.byte c.args.self.now c.self.inside.bytes.items c.self.view_is c.self.invariant (omega arith)
