use Rattle.std.proofs.Common.{◌≡◌, ◌+◌, ◌-◌, drop, length}
use Rattle.pdb_symbol_files.specs.CommonCalls.{common_calls}
use Rattle.pdb_symbol_files.proofs.inlines.common_calls.Given as goal

abbrev pub invariant-loop-common : goal.invariant-loop-common
invariant-loop-common l =
    l.common + common_calls (drop l.common l.a) (drop l.common l.b)
    ≡ common_calls l.a l.b

abbrev pub decreases-loop-common : goal.decreases-loop-common
decreases-loop-common l = length l.a - l.common
