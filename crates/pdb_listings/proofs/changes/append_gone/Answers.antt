use Rattle.std.proofs.Common.{◌+◌, ap, ◌∙◌}
use Rattle.pdb_listings.specs.Sizes.{new_in, old_in, old_where, size_in}
use Rattle.pdb_listings.proofs.Sums.{all_taken, pushed_more, pushed_none}
use Rattle.pdb_listings.proofs.changes.append_gone.Goals as goal

pub loop-size-preserved : goal.loop-size-preserved
loop-size-preserved c = record {
  these = λ test. rw c.in_ok-push.ensures.items (pushed_more (old_in test) (size_in test) c.loop-size.changes.items c.in_ok-gone.field-0 c.args.old.now c.loop-size.size-index c.size-item.result (old_where test c.args.changes.now.items)
      c.loop-size-test.true c.size-item.is (c.in_ok-gone.ensures.old test) (c.loop-size.invariant.these test));
  others = λ test. rw c.in_ok-push.ensures.items (pushed_none (new_in test) c.loop-size.changes.items c.in_ok-gone.field-0 _ (c.in_ok-gone.ensures.new test) (c.loop-size.invariant.others test));
}

pub returns-clause-old : goal.returns-clause-old
returns-clause-old c = λ test. c.loop-size.invariant.these test
    ∙ ap (λ n. old_where test c.args.changes.now.items + n) (all_taken (size_in test) c.args.old.now c.loop-size.size-index c.loop-size-test.false)
