use Rattle.std.proofs.Common.{◌≡◌, ◌++◌, drop}
use Rattle.pdb_contributions.specs.ContributionPieces.{contribution_spans, AreShort}
use Rattle.pdb_contributions.proofs.held.contribution_spans.Given as goal

-- with what the contributions left add, the spans are what they must be; and if those left are
-- short, all are
abbrev pub invariant-loop-number : goal.invariant-loop-number
invariant-loop-number l =
    (l.spans.items ++ contribution_spans l.number (drop l.number l.contributions)
    ≡ contribution_spans 0 l.contributions)
    × (AreShort (drop l.number l.contributions) → AreShort l.contributions)
