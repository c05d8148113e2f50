use Rattle.std.proofs.Common.{◌≡◌, ◌++◌, drop}
use Rattle.std.specs.List.{flat_map}
use Rattle.pdb_contributions.specs.BoundNumbers.{contribution_numbers}
use Rattle.pdb_contributions.proofs.sorted_bounds.contribution_numbers_of.Given as goal

-- the numbers so far, before those of the contributions that are left
abbrev pub invariant-loop-contribution : goal.invariant-loop-contribution
invariant-loop-contribution l = l.numbers.items ++ flat_map contribution_numbers (drop l.contribution-index l.contributions) ≡ flat_map contribution_numbers l.contributions
