use Rattle.std.proofs.Common.{length}
use Rattle.pdb_symbols.proofs.NamedSteps.{IsHalfNamed}
use Rattle.pdb_symbols.proofs.renaming.write_renamed.Given as goal

abbrev pub invariant-loop-line : goal.invariant-loop-line
invariant-loop-line g l =
    IsHalfNamed (g.W.Write.contents l.fn.output) (g.W.Write.contents l.output) l.text l.rest
    l.kept.items

abbrev pub decreases-loop-line : goal.decreases-loop-line
decreases-loop-line g l = length l.rest
