use Rattle.std.proofs.Common.{◌≡◌}
use Rattle.pdb_container.specs.Container.{first_words}
use Rattle.pdb_container.proofs.msf.words_of.Given as goal

abbrev pub invariant-loop-i : goal.invariant-loop-i
invariant-loop-i l = l.numbers.items ≡ first_words l.bytes l.i
