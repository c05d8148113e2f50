use Rattle.std.proofs.Common.{◌≡◌, ◌+◌, length, drop, get_or, subst, arith}
use Rattle.pdb_pieces.specs.Spans.{AreRuns}
use Rattle.pdb_pieces.proofs.Runs.{AreRuns-first, AreRuns-after, all_passed, pair_law, last_law}
use Rattle.pdb_pieces.proofs.cut.merge_pairs.Goals as goal

pub loop-i-preserved : goal.loop-i-preserved
loop-i-preserved c =
    let v = c.loop-i.invariant in
    let spans = c.args.spans.now in
    let ends = c.args.ends.now in
    let i = c.loop-i.i in
    let first = AreRuns-first spans c.loop-i.from (length spans) i ends 0 v.left (omega arith) in
    let second = AreRuns-first spans (get_or ends i 0) (length spans) (i + 1) ends 0 first.3
    c.loop-i-test.true in
    let on : i + 1 + 1 ≡ i + 2 = omega arith in
    let adds = c.in_ok-overlay.ensures in
    record {
      in_range = omega arith;
      half = omega (arith, c.in_ok-push.ensures.len);
      left = subst (λ n. AreRuns spans (get_or ends (i + 1) 0) (drop n ends) (length spans))
          on second.3;
      done = AreRuns-after c.loop-i.merged.items adds.added c.overlay.new.pieces.items
          c.loop-i.merged_ends.items c.push.new.self.items _ adds.is c.in_ok-push.ensures.items
          (omega (arith, c.len.ensures, c.overlay.new.pieces.ok)) v.done adds.pieces;
      law = λ p. pair_law spans c.loop-i.merged.items c.overlay.new.pieces.items c.loop-i.from
          (get_or ends i 0) (get_or ends (i + 1) 0) p first.0 second.0 adds (v.law p);
    }

pub returns-in_ok-push-2-clause-runs : goal.returns-in_ok-push-2-clause-runs
returns-in_ok-push-2-clause-runs c =
    let v = c.loop-i.invariant in
    let spans = c.args.spans.now in
    let ends = c.args.ends.now in
    let first = AreRuns-first spans c.loop-i.from (length spans) c.loop-i.i ends 0 v.left
    c.if-i-ends.true in
    AreRuns-after c.loop-i.merged.items _ c.extend_from_slice.new.self.items
    c.loop-i.merged_ends.items c.push-then-i-ends.new.self.items _
    c.in_ok-extend_from_slice.ensures.items c.in_ok-push-2.ensures.items
    (omega (arith, c.len-then-i-ends.ensures, c.extend_from_slice.new.self.ok)) v.done first.2

pub returns-in_ok-push-2-clause-best : goal.returns-in_ok-push-2-clause-best
returns-in_ok-push-2-clause-best c p =
    let v = c.loop-i.invariant in
    let spans = c.args.spans.now in
    let ends = c.args.ends.now in
    let i = c.loop-i.i in
    let first = AreRuns-first spans c.loop-i.from (length spans) i ends 0 v.left c.if-i-ends.true in
    let all = all_passed spans (get_or ends i 0) (length spans) (i + 1) ends first.3
    (omega arith) in
    last_law spans c.loop-i.merged.items c.extend_from_slice.new.self.items c.loop-i.from
    (get_or ends i 0) p first.0 all c.in_ok-extend_from_slice.ensures.items (v.law p)
