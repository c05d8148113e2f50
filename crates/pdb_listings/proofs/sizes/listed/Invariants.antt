use Rattle.std.proofs.Common.{◌≡◌, ◌++◌, map}
use Rattle.pdb_listings.specs.Sizes.{size_seen}
use Rattle.pdb_listings.proofs.sizes.listed.Given as goal

-- the sizes so far, and the entries that are left, are the table
abbrev pub invariant-loop-named : goal.invariant-loop-named
invariant-loop-named l = map size_seen l.sizes.items ++ l.named-iterator ≡ l.table
