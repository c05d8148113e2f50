use Rattle.std.proofs.Common.{◌≡◌, ◌∙◌, ap}
use Rattle.pdb_type_printing.specs.Printing.{Formatting}
use Rattle.pdb_type_printing.proofs.Others.{stops_on}
use Rattle.pdb_type_printing.proofs.Steps.{failed, stops_later, sure_step}
use Rattle.pdb_names.proofs.printer.FunctionPrinter.emit_method.Goals as goal

pub returns-in_err-emit_static-clause-text : goal.returns-in_err-emit_static-clause-text
returns-in_err-emit_static-clause-text g c =
    let flags : c.flags.result.bits ≡ c.args.self.now.flags =
    c.flags.ensures ∙ ap (λ (f : Formatting _). f.flags) c.self.view_is in
    failed _ _ _ _ c.from_residual.ensures.1
    (stops_on _ _ _ _ (rw flags at c.in_err-emit_static.ensures))

pub returns-in_err-maybe_emit_return_type-clause-text :
    goal.returns-in_err-maybe_emit_return_type-clause-text
returns-in_err-maybe_emit_return_type-clause-text g c =
    let flags : c.flags.result.bits ≡ c.args.self.now.flags =
    c.flags.ensures ∙ ap (λ (f : Formatting _). f.flags) c.self.view_is in
    failed _ _ _ _ c.from_residual-in_err-maybe_emit_return_type.ensures.1
    (stops_later _ _ _ _ _ (rw flags at c.in_ok-emit_static.ensures)
    (stops_on _ _ _ _ (rw c.self.view_is at c.in_err-maybe_emit_return_type.ensures.text)))

pub returns-in_err-emit_name-clause-text : goal.returns-in_err-emit_name-clause-text
returns-in_err-emit_name-clause-text g c =
    failed _ _ _ _ c.from_residual-in_err-emit_name.ensures.1
    (sure_step _ _ _ _ c.in_err-emit_name.ensures)

pub returns-in_err-emit_parent-clause-text : goal.returns-in_err-emit_parent-clause-text
returns-in_err-emit_parent-clause-text g c =
    let flags : c.flags.result.bits ≡ c.args.self.now.flags =
    c.flags.ensures ∙ ap (λ (f : Formatting _). f.flags) c.self.view_is in
    failed _ _ _ _ c.from_residual-in_err-emit_parent.ensures.1
    (stops_later _ _ _ _ _ (rw flags at c.in_ok-emit_static.ensures)
    (stops_later _ _ _ _ _ (rw c.self.view_is at c.in_ok-maybe_emit_return_type.ensures.text)
    (stops_on _ _ _ _
    (rw (
      c.maybe_emit_return_type.ensures.same,
      c.maybe_emit_return_type.ensures.level.path,
      c.self.view_is,
    ) at c.in_err-emit_parent.ensures.text))))
