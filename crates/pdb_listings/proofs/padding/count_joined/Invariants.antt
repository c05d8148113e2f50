use Rattle.std.proofs.Common.{◌+◌, ◌-◌, ◌≤◌}
use Rattle.pdb_owners.specs.Table.{sum_of}
use Rattle.pdb_listings.proofs.padding.count_joined.Given as goal

-- so many bytes are counted
abbrev pub invariant-loop-done : goal.invariant-loop-done
invariant-loop-done g l = record {
  bound : l.done ≤ l.contribution.size;
  room : sum_of l.keys ≤ sum_of l.fn.keys + l.done;
}

-- the bytes that are left
abbrev pub decreases-loop-done : goal.decreases-loop-done
decreases-loop-done g l = l.contribution.size - l.done
