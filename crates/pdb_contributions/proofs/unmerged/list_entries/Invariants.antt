use Rattle.std.proofs.Common.{length}
use Rattle.pdb_contributions.proofs.UnmergedSteps.{IsListing}
use Rattle.pdb_contributions.proofs.unmerged.list_entries.Given as goal

-- what was listed so far, with what is still to come
abbrev pub invariant-loop-later_starts : goal.invariant-loop-later_starts
invariant-loop-later_starts l = IsListing l.sections l.contributions.items l.later_starts.items
    l.entries l.fn.entries

abbrev pub decreases-loop-later_starts : goal.decreases-loop-later_starts
decreases-loop-later_starts l = length l.entries.items
