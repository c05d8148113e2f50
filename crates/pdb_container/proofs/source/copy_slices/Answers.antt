use Rattle.std.proofs.Common.{inr}
use Rattle.pdb_container.proofs.Bytes.{goes_on, is_done, one_within}
use Rattle.pdb_container.proofs.source.copy_slices.Goals as goal

pub returns-in_default-clause-err : goal.returns-in_default-clause-err
returns-in_default-clause-err c = inr (rw c.into.ensures c.in_default.ensures.within)

pub part_of-requires : goal.part_of-requires
part_of-requires c = one_within _ _ _ _ c.loop-slice-test.true c.in-Some.ensures.within

pub loop-slice-preserved : goal.loop-slice-preserved
loop-slice-preserved c =
    rw (c.in_ok-extend_from_slice.ensures.items) (goes_on _ _ _ _ _ _ c.loop-slice-test.true c.part_of.ensures c.loop-slice.invariant)

pub returns-clause-ok : goal.returns-clause-ok
returns-clause-ok c = rw c.in_ok-view.ensures (is_done _ _ _ _ c.loop-slice-test.false c.loop-slice.invariant)
