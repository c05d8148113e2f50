use Rattle.std.proofs.Common.{◌≡◌, length}
use Rattle.pdb_addresses.specs.Ranges.{internal_ranges}
use Rattle.pdb_owners.proofs.RangeLemmas.{IsSoFar}
use Rattle.pdb_owners.proofs.sizes.count_keys.Given as goal

-- what is counted so far and what is left of the ranges are the whole
abbrev pub invariant-loop-range : goal.invariant-loop-range
invariant-loop-range g l =
    let keyed = g.R.Runs.keyed in
    let lookups = g.R.Runs.lookups in
    record {
      so_far : IsSoFar (keyed l.fn.runs).answer_of l.map.internal (keyed l.fn.runs).places (internal_ranges l.map.to_internal l.start l.end) l.ranges l.keys (lookups l.fn.runs) (lookups l.runs);
      kept : IsSoFar (keyed l.fn.runs).answer_of l.map.internal (keyed l.fn.runs).places (internal_ranges l.map.to_internal l.start l.end) l.ranges l.keys 0 (length l.keys);
      answered : g.R.Runs.answered l.runs ≡ g.R.Runs.answered l.fn.runs;
      same : keyed l.runs ≡ keyed l.fn.runs;
    }

abbrev pub decreases-loop-range : goal.decreases-loop-range
decreases-loop-range g l = length l.ranges
