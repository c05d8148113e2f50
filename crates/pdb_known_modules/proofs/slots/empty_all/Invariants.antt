use Rattle.std.proofs.Common.{◌≡◌, None, ◌++◌, drop}
use Rattle.std.specs.Prelude.{replicate}
use Rattle.pdb_known_modules.proofs.slots.empty_all.Given as goal

abbrev pub invariant-loop-slot : goal.invariant-loop-slot
invariant-loop-slot g l = l.slots ≡ replicate l.slot None ++ drop l.slot l.fn.slots
