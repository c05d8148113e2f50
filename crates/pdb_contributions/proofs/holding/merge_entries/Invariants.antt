use Rattle.std.proofs.Common.{length}
use Rattle.pdb_contributions.proofs.MergeSteps.{IsMerging}
use Rattle.pdb_contributions.proofs.holding.merge_entries.Given as goal

-- what was merged so far, with what is still to come
abbrev pub invariant-loop-later_starts : goal.invariant-loop-later_starts
invariant-loop-later_starts l = IsMerging l.sections l.contributions.items l.later_starts.items
    l.current l.entries l.fn.entries

abbrev pub decreases-loop-later_starts : goal.decreases-loop-later_starts
decreases-loop-later_starts l = length l.entries.items
