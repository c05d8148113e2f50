use Rattle.std.proofs.Common.{ℕ, IsTrue, List, Some, ap, subst, sym, ◌∙◌}
use Rattle.msvc_demangler.specs.Literals.{is_literal, literal_name}
use Rattle.msvc_demangler.proofs.Printing.{if_ok, some_text}
use Rattle.msvc_demangler.proofs.answer.text_of.Goals as goal

pub returns-in-Ok-clause-literal : goal.returns-in-Ok-clause-literal
returns-in-Ok-clause-literal c is =
    let begun = c.in_ok-parser.ensures in
    let Named : List ℕ → Type 0 = λ name. IsTrue (is_literal name) in
    let read = c.in-Ok.ensures.literal
    (subst Named (sym begun.rest) is, begun.tasks.0, begun.tasks.1) in
    let text = some_text _ read.1 in
    if_ok c.print.result _ _
    (λ printed e. ap literal_name (sym begun.rest) ∙ text.1 ∙ ap Some (sym e))
    (c.print.ensures.literal text.0 (read.0 ∙ text.1))
