use Rattle.std.proofs.Common.{rules, arith}
use Rattle.pdb_pieces.proofs.Runs.{one_run}
use Rattle.pdb_pieces.proofs.cut.cut.Goals as goal

pub returns-clause-pieces : goal.returns-clause-pieces
returns-clause-pieces c = one_run c.loop-runs.runs.items c.loop-runs.ends.items
    c.loop-runs.invariant.runs
    (omega (arith, c.len.ensures, c.loop-runs-test.false, c.loop-runs.ends.ok))

pub returns-then-len-eq1-clause-pieces : goal.returns-then-len-eq1-clause-pieces
returns-then-len-eq1-clause-pieces c = one_run c.in_ok-runs.runs.items c.in_ok-ends.ends.items
    (search rules) (omega (arith, c.len.ensures, c.if-len-eq1.true, c.in_ok-ends.ends.ok))
