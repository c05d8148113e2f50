use Rattle.std.proofs.Common.{◌↔◌, drop}
use Rattle.pdb_contributions.specs.ContributionPieces.{AreApart, AreShort}
use Rattle.pdb_contributions.proofs.held.are_apart.Given as goal

-- the contributions left lie apart from the end of the last one on exactly if all do; and if those
-- left are short, all are
abbrev pub invariant-loop-contribution : goal.invariant-loop-contribution
invariant-loop-contribution l =
    (AreApart l.end (drop l.contribution-index l.contributions) ↔ AreApart 0 l.contributions)
    × (AreShort (drop l.contribution-index l.contributions) → AreShort l.contributions)
