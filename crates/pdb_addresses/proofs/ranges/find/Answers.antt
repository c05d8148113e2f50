use Rattle.std.proofs.Common.{sym, ◌∙◌, arith}
use Rattle.pdb_addresses.specs.Omap.{records_of}
use Rattle.pdb_addresses.proofs.RangeSteps.{nothing_left}
use Rattle.pdb_addresses.proofs.ranges.find.Goals as goal

pub returns-clause-gives : goal.returns-clause-gives
returns-clause-gives c =
    let none = nothing_left (records_of c.args.omap) c.loop-cursor.cursor.address c.args.end
    (omega arith) in
    (sym c.loop-cursor.invariant.1 ∙ none, none)
