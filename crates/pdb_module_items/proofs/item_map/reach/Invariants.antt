use Rattle.std.proofs.Common.{◌≡◌, ◌+◌, ◌-◌}
use Rattle.pdb_module_items.specs.Ends.{IsShown}
use Rattle.pdb_module_items.specs.declared.item_map.End.TheVariants as ends
use Rattle.pdb_module_items.proofs.item_map.reach.Given as goal

abbrev pub invariant-loop-iterator : goal.invariant-loop-iterator
invariant-loop-iterator g l = (l.finder.table ≡ l.fn.finder.table)
    × IsShown l.finder l.iterator' ends.Ahead

abbrev pub decreases-loop-iterator : goal.decreases-loop-iterator
decreases-loop-iterator g l = l.number + 1 - l.iterator'.index
