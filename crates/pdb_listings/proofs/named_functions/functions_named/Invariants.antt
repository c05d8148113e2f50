use Rattle.std.proofs.Common.{take}
use Rattle.pdb_listings.specs.NamedFunctions.{AreNamed}
use Rattle.pdb_listings.proofs.named_functions.functions_named.Given as goal

-- the marks of the functions so far
abbrev pub invariant-loop-row : goal.invariant-loop-row
invariant-loop-row l = AreNamed l.asked (take l.row-index l.rows) l.marks.items
