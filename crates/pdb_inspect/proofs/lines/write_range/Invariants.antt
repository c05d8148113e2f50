use Rattle.std.proofs.Common.{◌-◌}
use Rattle.pdb_inspect.proofs.lines.write_range.Given as goal

-- the addresses that are left
abbrev pub decreases-loop-address : goal.decreases-loop-address
decreases-loop-address g l = l.end - l.address
