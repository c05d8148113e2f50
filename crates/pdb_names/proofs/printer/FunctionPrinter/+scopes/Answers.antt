use Rattle.std.proofs.Common.{string_bytes, ◌∙◌}
use Rattle.pdb_records.specs.IdForms.{function_form}
use Rattle.std.proofs.lemmas.Result.{err_from_is_err_and}
use Rattle.pdb_type_printing.specs.Printing.{env_of}
use Rattle.pdb_names.proofs.Scopes.{scope_stops}
use Rattle.pdb_type_printing.proofs.Visits.{entered_err}
use Rattle.pdb_names.proofs.VisitsOfIds.{id_read, id_unread}
use Rattle.pdb_names.proofs.printer.FunctionPrinter.+scopes.Goals as goal

pub emit_id_index-returns-in-Ok-clause-text : goal.emit_id_index-returns-in-Ok-clause-text
emit_id_index-returns-in-Ok-clause-text g t c =
    id_read (λ f. env_of g.P.ModuleProvider.provided f c.args.asker.module_index) c.args.self.now
    c.read_id.new.self c.args.ids.now.path.now.items c.args.index.0 (string_bytes c.args.w.now)
    _ c.emit_entered_id.result (string_bytes c.emit_entered_id.new.w)
    (c.in-Ok.ensures.same ∙ c.self.view_is) (rw c.self.view_is at c.in-Ok.ensures.value)
    c.emit_entered_id.ensures.text

pub emit_id_index-returns-in-Err-clause-text : goal.emit_id_index-returns-in-Err-clause-text
emit_id_index-returns-in-Err-clause-text g t c =
    id_unread (env_of g.P.ModuleProvider.provided c.args.self.now c.args.asker.module_index)
    c.args.ids.now.path.now.items c.args.index.0 (string_bytes c.args.w.now) _
    c.emit_unread.result (string_bytes c.emit_unread.new.w)
    (rw c.self.view_is at c.in-Err.ensures.value) c.emit_unread.ensures

pub emit_entered_id-returns-in_err-insert-clause-text :
    goal.emit_entered_id-returns-in_err-insert-clause-text
emit_entered_id-returns-in_err-insert-clause-text g t c =
    let p = err_from_is_err_and c.from_residual.result c.from_residual.ensures.1 in
    rw (p.1, p.2)
    (entered_err c.args.ids.now.path.now.items c.new-level.result.path.now.items
    c.insert.new.self.path.now.items c.args.index.0 (string_bytes c.args.w.now) _
    c.in_err-insert.field-0.0 c.new-level.ensures.path c.in_err-insert.ensures.entered)

pub emit_scoped-returns-in_err-emit_scope-clause-text :
    goal.emit_scoped-returns-in_err-emit_scope-clause-text
emit_scoped-returns-in_err-emit_scope-clause-text g t c =
    let p = err_from_is_err_and c.from_residual-in_err-emit_scope.result
    c.from_residual-in_err-emit_scope.ensures.1 in
    rw (p.1, p.2)
    (scope_stops (λ f. env_of g.P.ModuleProvider.provided f c.args.asker.module_index)
    c.args.self.now c.emit_returned.new.self c.args.ids.now.path.now.items
    (function_form c.args.id.now) c.args.t.now
    (string_bytes c.args.w.now) (string_bytes c.emit_returned.new.w)
    (string_bytes c.emit_scope.new.w) c.in_err-emit_scope.field-0.0
    c.in_ok-emit_returned.ensures.same c.in_ok-emit_returned.ensures.text
    c.in_err-emit_scope.ensures.text)
