use Rattle.std.proofs.Common.{◌≡◌, drop}
use Rattle.pdb_contributions.specs.MergedContributions.{apart}
use Rattle.pdb_contributions.proofs.ApartSteps.{apart_after}
use Rattle.pdb_contributions.proofs.holding.check_apart.Given as goal

-- those that are left, after the one before them
abbrev pub invariant-loop-next : goal.invariant-loop-next
invariant-loop-next l = apart l.fn.contributions
    ≡ apart_after l.before (drop l.next-index l.contributions)
