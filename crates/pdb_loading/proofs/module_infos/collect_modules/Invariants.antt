use Rattle.std.specs.Prelude.{◌≡◌, length}
use Rattle.pdb_container.proofs.Listings.{onto}
use Rattle.pdb_loading.proofs.module_infos.collect_modules.Given as goal

-- what was gathered, before what is still to come
abbrev pub invariant-loop-modules : goal.invariant-loop-modules
invariant-loop-modules l = onto l.modules.items l.remaining ≡ l.fn.remaining

abbrev pub decreases-loop-modules : goal.decreases-loop-modules
decreases-loop-modules l = length l.remaining.items
