use Rattle.std.proofs.Common.{sym, ap, ◌∙◌}
use Rattle.std.proofs.lemmas.Option.{same_Some}
use Rattle.msvc_demangler.specs.Pieces.{piece_text}
use Rattle.msvc_demangler.proofs.Printing.{on_ok, pushed}
use Rattle.msvc_demangler.proofs.printer.Printer.run.Goals as goal

pub returns-in-Word : goal.returns-in-Word
returns-in-Word c text is empty =
    let p = c.args.self.now in
    let word = same_Some _ _ (sym (ap (piece_text p.tree.now) c.in-Word.is) ∙ is) in
    on_ok c.push_bytes.result _ _
    (λ e. pushed p c.push_bytes.new.self _ text empty e c.push_bytes.ensures.same
    (c.as_bytes.ensures.value ∙ word))
    c.push_bytes.ensures.text

pub returns-in_ok-text-in-Text : goal.returns-in_ok-text-in-Text
returns-in_ok-text-in-Text c text is empty =
    let p = c.args.self.now in
    let at = same_Some _ _ (sym (ap (piece_text p.tree.now) c.in-Text.is) ∙ is) in
    on_ok c.push_bytes-in-Text.result _ _
    (λ e. pushed p c.push_bytes-in-Text.new.self _ text empty e
    c.push_bytes-in-Text.ensures.same (c.in_ok-text-in-Text.ensures ∙ at))
    c.push_bytes-in-Text.ensures.text
