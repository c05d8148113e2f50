use Rattle.std.proofs.Common.{◌≡◌, take, drop}
use Rattle.pdb_container.proofs.paged_numbers.PagedNumbers.copied.Given as goal

abbrev pub invariant-loop-i : goal.invariant-loop-i
invariant-loop-i l = l.numbers.items ≡ take l.i (drop l.from l.self)
