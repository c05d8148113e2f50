use Rattle.std.proofs.Common.{length}
use Rattle.pdb_listings.proofs.compilers.append_version.Given as goal

-- the bytes that are left
abbrev pub decreases-loop-rest : goal.decreases-loop-rest
decreases-loop-rest l = length l.rest
