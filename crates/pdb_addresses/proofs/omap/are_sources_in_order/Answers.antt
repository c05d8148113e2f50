use Rattle.std.proofs.Common.{arith}
use Rattle.pdb_addresses.proofs.OmapLemmas.{in_order_done, falls}
use Rattle.pdb_addresses.proofs.omap.are_sources_in_order.Goals as goal

pub returns : goal.returns
returns c = in_order_done c.args.records.now c.loop-i.i (omega arith) c.loop-i.invariant

pub returns-then-records-i : goal.returns-then-records-i
returns-then-records-i c = falls c.args.records.now c.loop-i.i _ c.loop-i-test.true
    c.if-records-i.true
