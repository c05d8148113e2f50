use Rattle.std.proofs.Common.{◌≡◌, ◌-◌, ◌<◌, ◌≤◌, length, true}
use Rattle.pdb_owners.specs.Counts.{answer_at, begins}
use Rattle.pdb_owners.specs.Table.{IsCounted, IsWithin}
use Rattle.pdb_owners.proofs.sizes.count_range.Given as goal

-- the addresses before this one are counted, and it begins a piece
abbrev pub invariant-loop-address : goal.invariant-loop-address
invariant-loop-address g l =
    let keyed = g.R.Runs.keyed in
    let lookups = g.R.Runs.lookups in
    let answer_of = (keyed l.fn.runs).answer_of in
    let places = (keyed l.fn.runs).places in
    let start = l.fn.range.start.0 in
    record {
      low : start ≤ l.address;
      high : l.address - start ≤ l.end - start;
      counted : IsCounted answer_of (answer_at l.map.internal places) start (l.address - start) l.fn.keys l.keys;
      within : IsWithin (begins l.map.internal places start) start (l.address - start) (lookups l.fn.runs) (lookups l.runs);
      kept : IsWithin (begins l.map.internal places start) start (l.address - start) (length l.fn.keys) (length l.keys);
      answered : g.R.Runs.answered l.runs ≡ g.R.Runs.answered l.fn.runs;
      next : l.address < l.end → begins l.map.internal places start l.address ≡ true;
      same : keyed l.runs ≡ keyed l.fn.runs;
    }

abbrev pub decreases-loop-address : goal.decreases-loop-address
decreases-loop-address g l = l.end - l.address
