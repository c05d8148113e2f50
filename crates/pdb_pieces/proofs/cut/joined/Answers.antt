use Rattle.std.proofs.Common.{ap, ◌∙◌, sym, get_or}
use Rattle.pdb_pieces.specs.Spans.{better, mark_over}
use Rattle.pdb_pieces.proofs.Runs.{best-take_more, empty_law, no_span}
use Rattle.pdb_pieces.proofs.cut.joined.Goals.{then-span+in_ok-push_joined, else-span}
use Rattle.pdb_pieces.proofs.cut.joined.Goals as goal

pub loop-span-preserved : goal.loop-span-preserved
loop-span-preserved c =
    let v = c.loop-span.invariant in
    let spans = c.args.spans.now in
    let i = c.loop-span.span-index in
    let here = c.loop-span-test.true in
    let span = get_or spans i no_span in
    elim c.if-span.branch [
      | then-span+in_ok-push_joined w ↦
          rw (ap (λ (x : _). x.items) w.wide-is) record {
            wide = w.in_ok-push_joined.ensures.wide;
            law = λ p. w.in_ok-push_joined.ensures.best p
                ∙ ap (λ o. better o (mark_over span p)) (v.law p)
                ∙ sym (best-take_more spans i no_span p here);
          }
      | else-span w ↦
          rw (ap (λ (x : _). x.items) w.wide-is) record {
            wide = v.wide;
            law = λ p. v.law p ∙ sym (empty_law spans i no_span p here w.if-span.false);
          }
    ]
