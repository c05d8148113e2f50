use Rattle.std.proofs.Common.{suc, length, ◌-◌}
use Rattle.pdb_names.specs.ByNumber.{IsSamePlaces}
use Rattle.pdb_names.proofs.by_number.make_places.Given as goal

abbrev pub invariant-loop-places : goal.invariant-loop-places
invariant-loop-places g l = IsSamePlaces l.fn.places.items l.places.items

abbrev pub decreases-loop-places : goal.decreases-loop-places
decreases-loop-places g l = suc l.fn.number - length l.places.items
