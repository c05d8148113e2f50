use Rattle.std.proofs.Common.{◌≡◌, ◌++◌, codes}
use Rattle.std.specs.List.{repeat}
use Rattle.pdb_listings.proofs.plain.append_blanks.Given as goal

-- so many blanks stand after the output
abbrev pub invariant-loop-i : goal.invariant-loop-i
invariant-loop-i l = l.output.items ≡ l.fn.output.items ++ repeat l._i (codes " ")
