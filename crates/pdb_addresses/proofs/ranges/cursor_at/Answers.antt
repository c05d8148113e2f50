use Rattle.pdb_addresses.proofs.RangeSteps.{starts}
use Rattle.pdb_addresses.proofs.ranges.cursor_at.Goals as goal

pub returns-in-Some-clause-at : goal.returns-in-Some-clause-at
returns-in-Some-clause-at c =
    let e = c.last_number-number.ensures in
    rw c.in-Some.is (starts c.in-Some.records.now c.last_number-number.result c.args.address e.bound
    e.low e.high)
