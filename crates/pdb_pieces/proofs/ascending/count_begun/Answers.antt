use Rattle.std.proofs.Common.{◌+◌, ◌-◌, ◌/◌, ◌<◌, ◌≤◌, subst, arith}
use Rattle.pdb_pieces.proofs.Halving.{number_read, AreBefore-more, AreAfter-more, IsCheap-more}
use Rattle.pdb_pieces.proofs.Halving.{IsThorough-more}
use Rattle.pdb_pieces.proofs.ascending.count_begun.Goals as goal

pub overflow_add-probes : goal.overflow_add-probes
overflow_add-probes g c =
    let v = c.loop-low.invariant in
    let left = v.cheap.each 64 v.small in omega (arith, left.0)

pub loop-low-preserved-then-place-begins_at : goal.loop-low-preserved-then-place-begins_at
loop-low-preserved-then-place-begins_at g c =
    let v = c.loop-low.invariant in
    let middle = c.loop-low.low + (c.loop-low.high - c.loop-low.low) / 2 in
    let read = number_read g.T.Begins.beginning c.args.items.now middle c.index-items-middle.result
    (omega arith) c.index-items-middle.is in
    let past = subst (λ n. c.args.place < n) c.begins_at.ensures c.if-place-begins_at.true in
    record {
      small = v.small;
      in_order = omega arith;
      in_range = omega arith;
      before = v.before;
      after = AreAfter-more _ middle _ _ c.requires read past;
      cheap = IsCheap-more _ _ _ _ v.cheap (omega arith) (omega arith);
      thorough = IsThorough-more _ _ _ _ v.thorough (omega arith);
    }

pub loop-low-preserved : goal.loop-low-preserved
loop-low-preserved g c =
    let v = c.loop-low.invariant in
    let middle = c.loop-low.low + (c.loop-low.high - c.loop-low.low) / 2 in
    let read = number_read g.T.Begins.beginning c.args.items.now middle c.index-items-middle.result
    (omega arith) c.index-items-middle.is in
    let begun = subst (λ n. n ≤ c.args.place) c.begins_at.ensures c.if-place-begins_at.false in
    record {
      small = v.small;
      in_order = omega arith;
      in_range = v.in_range;
      before = AreBefore-more _ middle _ _ c.requires read begun;
      after = v.after;
      cheap = IsCheap-more _ _ _ _ v.cheap (omega arith) (omega arith);
      thorough = IsThorough-more _ _ _ _ v.thorough (omega arith);
    }
