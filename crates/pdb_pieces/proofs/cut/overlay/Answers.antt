use Rattle.std.proofs.Common.{◌≡◌, ◌<◌, ◌≤◌, ◌++◌, [], ◌∷◌, Some, None, ap, ◌∙◌, sym, append_assoc}
use Rattle.std.proofs.Common.{arith}
use Rattle.pdb_pieces.specs.declared.span.Span.{Span}
use Rattle.pdb_pieces.specs.Spans.{better}
use Rattle.pdb_pieces.proofs.Covers.{ArePieces-push, ArePieces-wider}
use Rattle.pdb_pieces.proofs.Overlay.{IsBetterBelow-push, IsBetterBelow-skip, IsBetter-at_end}
use Rattle.pdb_pieces.proofs.cut.overlay.Goals.{in-Some+in_ok-push, in_default}
use Rattle.pdb_pieces.proofs.cut.overlay.Goals as goal

pub loop-from-preserved : goal.loop-from-preserved
loop-from-preserved c =
    let v = c.loop-from.invariant in
    let l = c.look_ahead-in_left in
    let r = c.look_ahead-in_right in
    let to = c.min-to.result in
    let rises : c.loop-from.from < to = omega arith in
    let in_left : to ≤ l.result.until = omega arith in
    let in_right : to ≤ r.result.until = omega arith in
    elim c.match-better_of.branch [
      | in-Some+in_ok-push w ↦
          let is : better l.result.mark r.result.mark ≡ Some w.in-Some.mark =
          sym c.better_of.ensures ∙ w.in-Some.is in
          let piece : Span = record { start = c.loop-from.from; end = to; mark = w.in-Some.mark } in
          record {
            bound = omega arith;
            left = c.pass-i.ensures;
            right = c.pass-j.ensures;
            added = v.added ++ piece ∷ [];
            is = ap (λ (x : _). x.items) w.pieces-is ∙ w.in_ok-push.ensures.items
                ∙ ap (λ ys. ys ++ piece ∷ []) v.is ∙ append_assoc _ v.added (piece ∷ []);
            pieces = ArePieces-push _ _ _ _ _ v.pieces (omega arith) rises (omega arith);
            law = IsBetterBelow-push _ _ _ _ _ _ _ _ _ _ v.pieces v.law l.ensures.stands
                r.ensures.stands in_left in_right is;
          }
      | in_default w ↦
          let is : better l.result.mark r.result.mark ≡ None =
          sym c.better_of.ensures ∙ w.in_default.is in
          record {
            bound = omega arith;
            left = c.pass-i.ensures;
            right = c.pass-j.ensures;
            added = v.added;
            is = ap (λ (x : _). x.items) w.pieces-is ∙ v.is;
            pieces = ArePieces-wider _ _ _ _ v.pieces (omega arith);
            law = IsBetterBelow-skip _ _ _ _ _ _ _ _ _ v.pieces v.law l.ensures.stands
                r.ensures.stands in_left in_right is;
          }
    ]

pub returns : goal.returns
returns c =
    let v = c.loop-from.invariant in
    record {
      added = v.added;
      is = v.is;
      pieces = ArePieces-wider 0 c.loop-from.from _ _ v.pieces (omega arith);
      best = IsBetter-at_end _ _ _ _ _ v.pieces v.law c.requires.left c.requires.right
          (omega arith);
    }
