use Rattle.std.proofs.Common.{◌≡◌, ◌-◌, ◌^◌, take, min}
use Rattle.pdb_listings.specs.Sizes.{bytes_of}
use Rattle.pdb_listings.proofs.sizes.total_of.Given as goal

-- the total is that of the sizes so far
abbrev pub invariant-loop-size : goal.invariant-loop-size
invariant-loop-size l = l.total ≡ min (bytes_of (take l.size-index l.sizes)) (2 ^ 64 - 1)
