use Rattle.pdb_loading.proofs.LoadingSteps.{parts_checked_load}
use Rattle.pdb_loading.proofs.loading.check_held.Goals as goal

-- with parts that can be made, what is held is that of a file that was loaded
pub invariant_of-result : goal.invariant_of-result
invariant_of-result c = parts_checked_load c.args.order c.into_parts-file.result.0 c.into_parts-file.result.1 tt c.into_parts-file.ensures.held c.in-Ok.ensures
