use Rattle.std.proofs.Common.{◌<◌, sym, ◌∙◌, arith}
use Rattle.pdb_container_types.proofs.Walks.{walk_more, walk_fault}
use Rattle.pdb_container_types.proofs.item_list.walk.Goals as goal

pub returns-in-Err-clause-item : goal.returns-in-Err-clause-item
returns-in-Err-clause-item c =
    let s = c.in-Err.ensures.item in
    (s.0, sym c.loop-passed.invariant.0 ∙ walk_fault _ _ _ _ s.1)

pub loop-passed-preserved : goal.loop-passed-preserved
loop-passed-preserved c =
    let s = rw c.in-Ok-Some.field-0-is at c.in-Ok-Some.ensures.item in
    let more : c.loop-passed.passed < c.args.skip = omega arith in
    let count = c.in-Ok-Some.ensures.count in
    let so_far = c.loop-passed.invariant.1 in (
      walk_more c.args.first c.args.skip c.loop-passed.passed _ _ _ _ more s.0
          c.loop-passed.invariant.0,
      omega arith,
    )
