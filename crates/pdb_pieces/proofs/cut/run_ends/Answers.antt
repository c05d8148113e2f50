use Rattle.std.proofs.Common.{◌≡◌, length, ap, ◌∙◌, sym, subst, arith}
use Rattle.pdb_pieces.specs.Spans.{AreRuns}
use Rattle.pdb_pieces.proofs.Runs.{AreWide-at, run_more, run_first, run_ended, no_span}
use Rattle.pdb_pieces.proofs.cut.run_ends.Goals.{then-span-end+in_ok-push, else-span-end}
use Rattle.pdb_pieces.proofs.cut.run_ends.Goals as goal

pub loop-i-preserved : goal.loop-i-preserved
loop-i-preserved c =
    let v = c.loop-i.invariant in
    let spans = c.args.spans.now in
    let i = c.loop-i.i in
    let here = c.loop-i-test.true in
    let wide = AreWide-at spans i no_span c.requires here in
    elim c.if-span-end.branch [
      | then-span-end+in_ok-push w ↦
          record {
            in_range = omega arith;
            from = i;
            before = omega arith;
            done = run_ended spans c.loop-i.ends.items _ v.from i c.loop-i.end v.done v.before
                v.in_range v.run v.bound (ap (λ (x : _). x.items) w.ends-is
                ∙ w.in_ok-push.ensures.items);
            run = run_first spans i no_span here wide;
            bound = omega arith;
          }
      | else-span-end w ↦
          record {
            in_range = omega arith;
            from = v.from;
            before = omega arith;
            done = subst (λ (x : _). AreRuns spans 0 x.items v.from) (sym w.ends-is) v.done;
            run = run_more spans v.from i c.loop-i.end no_span v.before here v.run
                w.if-span-end.false wide;
            bound = omega arith;
          }
    ]

pub returns : goal.returns
returns c =
    let v = c.loop-i.invariant in
    let spans = c.args.spans.now in
    let all : c.loop-i.i ≡ length spans = omega arith in
    subst (AreRuns spans 0 _) all
    (run_ended spans c.loop-i.ends.items _ v.from c.loop-i.i c.loop-i.end v.done v.before
    v.in_range v.run v.bound c.in_ok-push-2.ensures.items)
