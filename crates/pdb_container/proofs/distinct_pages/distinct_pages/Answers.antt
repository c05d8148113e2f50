use Rattle.std.proofs.Common.{length, arith}
use Rattle.std.proofs.lemmas.List.{take_more}
use Rattle.pdb_container.proofs.DistinctPages.{distinct_more}
use Rattle.pdb_container.proofs.distinct_pages.distinct_pages.Goals as goal

pub loop-page-preserved : goal.loop-page-preserved
loop-page-preserved c =
    let more = take_more c.args.list.now c.loop-page.page-index 0 c.loop-page-test.true in
    let e = c.in_ok-place.ensures in
    (rw (more, c.in_ok-push.ensures.items) (distinct_more _ c.loop-page.pages.items _ _ _ _ c.loop-page.invariant.0 e.pages e.there.0 e.there.1), e.known)
