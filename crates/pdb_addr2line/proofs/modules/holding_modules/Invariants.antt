use Rattle.std.proofs.Common.{◌≡◌, ◌++◌, drop}
use Rattle.pdb_addr2line.specs.ModulesAt.{modules_holding}
use Rattle.pdb_addr2line.proofs.modules.holding_modules.Given as goal

-- the modules so far, before those of the contributions that are left
abbrev pub invariant-loop-contribution : goal.invariant-loop-contribution
invariant-loop-contribution l = l.modules.items ++ modules_holding l.map l.range (drop l.contribution-index l.contributions) ≡ modules_holding l.map l.range l.contributions
