use Rattle.pdb_addresses.proofs.OmapLemmas.{IsInOrderTo}
use Rattle.pdb_addresses.proofs.omap.are_sources_in_order.Given as goal

-- no source so far lies below the one before it
abbrev pub invariant-loop-i : goal.invariant-loop-i
invariant-loop-i l = IsInOrderTo l.records l.i
