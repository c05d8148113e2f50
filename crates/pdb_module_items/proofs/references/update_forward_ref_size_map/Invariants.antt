use Rattle.std.proofs.Common.{◌≡◌}
use Rattle.pdb_module_items.specs.Definitions.{AreDefinitions}
use Rattle.pdb_module_items.specs.KeptSizes.{AreSizes}
use Rattle.pdb_module_items.proofs.references.update_forward_ref_size_map.Given as goal

abbrev pub invariant-loop-index : goal.invariant-loop-index
invariant-loop-index l = (l.types ≡ l.fn.types) × (l.minimum ≡ l.types.minimum)
    × AreDefinitions l.types l.index l.definitions × AreSizes l.types l.sizes

abbrev pub decreases-loop-index : goal.decreases-loop-index
decreases-loop-index l = l.index
