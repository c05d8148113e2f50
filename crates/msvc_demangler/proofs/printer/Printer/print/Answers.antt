use Rattle.std.proofs.Common.{◌≡◌, ◌-◌, [], ◌++◌, Some, take, sym, ap, ◌∙◌, append-nil, arith, vec_len}
use Rattle.std.specs.Prelude.{option_map}
use Rattle.std.proofs.lemmas.Option.{same_Some}
use Rattle.msvc_demangler.specs.Pieces.{before, in_order, last_first, piece_text}
use Rattle.msvc_demangler.proofs.Printing.{first_more, no_piece, one_printed, piece_has_text}
use Rattle.msvc_demangler.proofs.printer.Printer.print.Goals as goal

pub returns-in_default-clause-text : goal.returns-in_default-clause-text
returns-in_default-clause-text c text empty is =
    let inv = c.loop-step.invariant.text text empty is in
    let p = c.loop-step.self in
    let e = c.in_default.ensures in
    let left : vec_len p.pieces - 1 ≡ 0 = omega (arith, e.cases) in
    let none : p.pieces.items ≡ [] = e.items ∙ append-nil _ ∙ e.rest
    ∙ ap (λ n. take n p.pieces.items) left in
    sym (append-nil p.text.items)
    ∙ same_Some _ _ (sym (ap (option_map (λ r. p.text.items ++ r))
    (no_piece p.tree.now p.pieces.items none)) ∙ inv.0)

pub loop-step-preserved : goal.loop-step-preserved
loop-step-preserved c = record {
  few = omega arith;
  text = λ text empty is.
      let inv = c.loop-step.invariant.text text empty is in
      let p = c.loop-step.self in
      let tree = p.tree.now in
      let left = c.pop.new.self.items in
      let q = c.run.new.self in
      let new = c.take_over.new.self in
      let planned = in_order q.tree.now q.planned.items in
      let piece = c.in-Some.piece in
      let at : option_map (λ r. p.text.items ++ r)
      (before (last_first tree left) (piece_text tree piece)) ≡ Some text =
      sym (ap (option_map (λ r. p.text.items ++ r))
      (ap (last_first tree) c.in-Some.ensures.items ∙ first_more tree left piece)) ∙ inv.0 in
      let has = piece_has_text p.text.items text _ _ at in
      let prints = c.in_ok-run.ensures has.0 has.1 inv.1 in
      let over : last_first new.tree.now new.pieces.items ≡ before (last_first tree left) planned =
      c.in_ok-take_over.ensures.pieces
      ∙ ap (λ l. before l planned)
      (ap (λ t. last_first t q.pieces.items) prints.2 ∙ ap (last_first tree) prints.1) in (
        one_printed p.text.items new.text.items text (last_first tree left) (piece_text tree piece)
            planned _ at
            (λ t f. ap (λ b. option_map (λ r. b ++ r) planned) c.take_over.ensures.text
            ∙ (c.in_ok-run.ensures t f inv.1).0)
            over,
        c.in_ok-take_over.ensures.planned,
      );
}
