use Rattle.std.proofs.Common.{◌≡◌, ℕ, false, [], ◌∷◌, ◌++◌, string_bytes, refl, sym, ap, subst, ◌∙◌}
use Rattle.std.specs.Prelude.{Option}
use Rattle.std.proofs.lemmas.Result.{err_from_is_err_and}
use Rattle.pdb_container.specs.declared.index.TypeIndex.{TypeIndex}
use Rattle.pdb_type_printing.specs.Paths.{room}
use Rattle.pdb_type_printing.specs.Printed.{Printed, Prints, Stops}
use Rattle.pdb_type_printing.specs.Returns.{shown_return}
use Rattle.pdb_type_printing.proofs.Copies.{stops_in_copy, copied, first_stops, first_goes_on}
use Rattle.pdb_type_printing.proofs.Copies.{run_stops, run_goes_on}
use Rattle.pdb_type_printing.proofs.Failing.{fails_stops, sure_stops}
use Rattle.pdb_type_printing.proofs.Others.{no_array, no_function, stops_on, other_modified}
use Rattle.pdb_type_printing.proofs.Others.{other_pointee, other_modified_pointee}
use Rattle.pdb_type_printing.specs.Types.{visiting, shown_text, PointedTo, PointedModified}
use Rattle.pdb_type_printing.specs.Types.{Modified, MethodArguments}
use Rattle.pdb_type_printing.specs.Printing.{Formatting, env_of}
use Rattle.pdb_type_printing.proofs.Returns.{shown_unless, shown_behind}
use Rattle.pdb_type_printing.proofs.Steps.{failed, goes_on, sure_step}
use Rattle.pdb_type_printing.proofs.Visits.{whole_read, whole_unread, level_ok, level_err}
use Rattle.pdb_type_printing.proofs.Visits.{entered_err}
use Rattle.pdb_type_printing.proofs.printer.TypePrinter.+printing.Goals as goal

pub emit_type_index-returns-in-Ok-clause-text : goal.emit_type_index-returns-in-Ok-clause-text
emit_type_index-returns-in-Ok-clause-text g t c =
    whole_read (λ f. env_of g.P.ModuleProvider.provided f c.args.asker.module_index) c.args.self.now
    c.read.new.self c.args.seen.now.path.now.items c.args.index.0 (string_bytes c.args.w.now) _
    c.emit_entered.result (string_bytes c.emit_entered.new.w) c.in-Ok.ensures.same
    c.in-Ok.ensures.value c.emit_entered.ensures.text

pub emit_type_index-returns-in-Err-clause-text : goal.emit_type_index-returns-in-Err-clause-text
emit_type_index-returns-in-Err-clause-text g t c =
    whole_unread (env_of g.P.ModuleProvider.provided c.args.self.now c.args.asker.module_index)
    c.args.seen.now.path.now.items c.args.index.0 (string_bytes c.args.w.now) _
    c.emit_unread.result (string_bytes c.emit_unread.new.w) c.in-Err.ensures.value
    c.emit_unread.ensures

pub emit_entered-returns-in_err-insert-clause-text :
    goal.emit_entered-returns-in_err-insert-clause-text
emit_entered-returns-in_err-insert-clause-text g t c =
    let p = err_from_is_err_and c.from_residual.result c.from_residual.ensures.1 in
    rw (p.1, p.2)
    (entered_err c.args.seen.now.path.now.items c.new-level.result.path.now.items
    c.insert.new.self.path.now.items c.args.index.0 (string_bytes c.args.w.now) _
    c.in_err-insert.field-0.0 c.new-level.ensures.path c.in_err-insert.ensures.entered)

pub emit_modified-returns-in_err-insert-clause-text :
    goal.emit_modified-returns-in_err-insert-clause-text
emit_modified-returns-in_err-insert-clause-text g t c =
    let p = err_from_is_err_and c.from_residual.result c.from_residual.ensures.1 in
    rw (p.1, p.2)
    (level_err (env_of g.P.ModuleProvider.provided c.args.self.now c.args.asker.module_index)
    (Modified c.args.is_constant) c.args.seen.now.path.now.items
    c.new-level.result.path.now.items c.insert.new.self.path.now.items c.args.index.0
    (string_bytes c.args.w.now) c.in_err-insert.field-0.0 tt c.new-level.ensures.path
    c.in_err-insert.ensures.entered)

pub emit_modified-returns-clause-text : goal.emit_modified-returns-clause-text
emit_modified-returns-clause-text g t c =
    level_ok (env_of g.P.ModuleProvider.provided c.args.self.now c.args.asker.module_index)
    (Modified c.args.is_constant) c.args.seen.now.path.now.items
    c.new-level.result.path.now.items c.insert.new.self.path.now.items c.args.index.0
    (string_bytes c.args.w.now) c.emit_modified_inside.result
    (string_bytes c.emit_modified_inside.new.w) tt c.new-level.ensures.path
    c.in_ok-insert.ensures.entered c.emit_modified_inside.ensures.text

pub emit_pointee-returns-in_err-insert-clause-text :
    goal.emit_pointee-returns-in_err-insert-clause-text
emit_pointee-returns-in_err-insert-clause-text g t c =
    let p = err_from_is_err_and c.from_residual.result c.from_residual.ensures.1 in
    rw (p.1, p.2)
    (level_err (env_of g.P.ModuleProvider.provided c.args.self.now c.args.asker.module_index)
    (PointedTo c.args.before.now.items c.args.last) c.args.seen.now.path.now.items
    c.new-level.result.path.now.items c.insert.new.self.path.now.items c.args.index.0
    (string_bytes c.args.w.now) c.in_err-insert.field-0.0 tt c.new-level.ensures.path
    c.in_err-insert.ensures.entered)

pub emit_pointee-returns-clause-text : goal.emit_pointee-returns-clause-text
emit_pointee-returns-clause-text g t c =
    level_ok (env_of g.P.ModuleProvider.provided c.args.self.now c.args.asker.module_index)
    (PointedTo c.args.before.now.items c.args.last) c.args.seen.now.path.now.items
    c.new-level.result.path.now.items c.insert.new.self.path.now.items c.args.index.0
    (string_bytes c.args.w.now) c.emit_pointee_inside.result
    (string_bytes c.emit_pointee_inside.new.w) tt c.new-level.ensures.path
    c.in_ok-insert.ensures.entered c.emit_pointee_inside.ensures.text

pub emit_pointee_modified-returns-in_err-insert-clause-text :
    goal.emit_pointee_modified-returns-in_err-insert-clause-text
emit_pointee_modified-returns-in_err-insert-clause-text g t c =
    let p = err_from_is_err_and c.from_residual.result c.from_residual.ensures.1 in
    rw (p.1, p.2)
    (level_err (env_of g.P.ModuleProvider.provided c.args.self.now c.args.asker.module_index)
    (PointedModified c.args.before.now.items c.args.last) c.args.seen.now.path.now.items
    c.new-level.result.path.now.items c.insert.new.self.path.now.items c.args.index.0
    (string_bytes c.args.w.now) c.in_err-insert.field-0.0 tt c.new-level.ensures.path
    c.in_err-insert.ensures.entered)

pub emit_pointee_modified-returns-clause-text : goal.emit_pointee_modified-returns-clause-text
emit_pointee_modified-returns-clause-text g t c =
    level_ok (env_of g.P.ModuleProvider.provided c.args.self.now c.args.asker.module_index)
    (PointedModified c.args.before.now.items c.args.last) c.args.seen.now.path.now.items
    c.new-level.result.path.now.items c.insert.new.self.path.now.items c.args.index.0
    (string_bytes c.args.w.now) c.emit_pointee_modified_inside.result
    (string_bytes c.emit_pointee_modified_inside.new.w) tt c.new-level.ensures.path
    c.in_ok-insert.ensures.entered c.emit_pointee_modified_inside.ensures.text

pub emit_argument_list-returns-in_err-insert-clause-text :
    goal.emit_argument_list-returns-in_err-insert-clause-text
emit_argument_list-returns-in_err-insert-clause-text g t c =
    let p = err_from_is_err_and c.from_residual.result c.from_residual.ensures.1 in
    rw (p.1, p.2)
    (level_err (env_of g.P.ModuleProvider.provided c.args.self.now c.args.asker.module_index)
    (MethodArguments c.args.t.now.class_type c.args.t.now.this_pointer_type
    c.args.says_constant) c.args.seen.now.path.now.items c.new-level.result.path.now.items
    c.insert.new.self.path.now.items c.args.t.now.argument_list.0 (string_bytes c.args.w.now)
    c.in_err-insert.field-0.0 tt c.new-level.ensures.path c.in_err-insert.ensures.entered)

pub emit_argument_list-returns-clause-text : goal.emit_argument_list-returns-clause-text
emit_argument_list-returns-clause-text g t c =
    level_ok (env_of g.P.ModuleProvider.provided c.args.self.now c.args.asker.module_index)
    (MethodArguments c.args.t.now.class_type c.args.t.now.this_pointer_type
    c.args.says_constant) c.args.seen.now.path.now.items c.new-level.result.path.now.items
    c.insert.new.self.path.now.items c.args.t.now.argument_list.0 (string_bytes c.args.w.now)
    c.emit_argument_list_inside.result (string_bytes c.emit_argument_list_inside.new.w) tt
    c.new-level.ensures.path c.in_ok-insert.ensures.entered
    c.emit_argument_list_inside.ensures.text

pub emit_type_inner-returns-in_default-clause-text :
    goal.emit_type_inner-returns-in_default-clause-text
emit_type_inner-returns-in_default-clause-text g t c =
    subst (λ (x : Printed). Prints c.emit_plain.result (string_bytes c.emit_plain.new.w) x)
    (sym
    (no_array (env_of g.P.ModuleProvider.provided c.args.self.now c.args.asker.module_index)
    (visiting (env_of g.P.ModuleProvider.provided c.args.self.now c.args.asker.module_index)
    c.args.seen.now.path.now.items) c.args.seen.now.path.now.items c.args.found.now
    (string_bytes c.args.w.now) c.in_default.not-Array)) c.emit_plain.ensures.text

pub emit_pointed-returns-in_err-emit_type-in_default-clause-text :
    goal.emit_pointed-returns-in_err-emit_type-in_default-clause-text
emit_pointed-returns-in_err-emit_type-in_default-clause-text g t c =
    let p = err_from_is_err_and c.from_residual.result c.from_residual.ensures.1 in
    rw (p.1, p.2)
    (subst
    (λ (x : Printed). Stops c.in_err-emit_type-in_default.field-0.0
    (string_bytes c.emit_type.new.w) x)
    (sym
    (no_function (env_of g.P.ModuleProvider.provided c.args.self.now c.args.asker.module_index)
    (visiting (env_of g.P.ModuleProvider.provided c.args.self.now c.args.asker.module_index)
    c.args.seen.now.path.now.items) c.args.seen.now.path.now.items c.args.pointers.now
    c.args.found.now (string_bytes c.args.w.now) c.in_default.not-MemberFunction
    c.in_default.not-Procedure))
    (stops_on c.in_err-emit_type-in_default.field-0.0 (string_bytes c.emit_type.new.w) _ _
    c.in_err-emit_type-in_default.ensures.text))

pub emit_modified_inside-returns-in_default-clause-text :
    goal.emit_modified_inside-returns-in_default-clause-text
emit_modified_inside-returns-in_default-clause-text g t c =
    other_modified (λ f. env_of g.P.ModuleProvider.provided f c.args.asker.module_index)
    c.args.self.now c.read.new.self c.args.is_constant c.args.seen.now.path.now.items
    c.args.index.0 (string_bytes c.args.w.now) c.in_ok-found.found c.in_ok-found.found _
    (string_bytes c.emit_modified_other.new.w) c.in_ok-found.ensures.same
    c.in_ok-found.ensures.value refl (λ x e. c.in_default.not-Primitive x cc)
    (λ x e. c.in_default.not-Pointer x cc) c.emit_modified_other.ensures.text

pub emit_pointee_inside-returns-in_ok-push-in_default-clause-text :
    goal.emit_pointee_inside-returns-in_ok-push-in_default-clause-text
emit_pointee_inside-returns-in_ok-push-in_default-clause-text g t c =
    let all : c.deref.result.now ≡ c.args.before.now.items ++ c.args.last ∷ [] =
    c.deref.ensures.value ∙ c.in_ok-push-in_default.ensures.items in
    other_pointee (λ f. env_of g.P.ModuleProvider.provided f c.args.asker.module_index)
    c.args.self.now c.read.new.self c.args.before.now.items c.args.last
    c.args.seen.now.path.now.items c.args.index.0 (string_bytes c.args.w.now)
    c.in_ok-found.found c.in_ok-found.found c.deref.result.now _
    (string_bytes c.emit_pointed.new.w) c.in_ok-found.ensures.same c.in_ok-found.ensures.value
    refl all (λ x e. c.in_default.not-Pointer x cc) (λ x e. c.in_default.not-Modifier x cc)
    c.emit_pointed.ensures.text

pub emit_pointee_modified_inside-returns-in_default-clause-text :
    goal.emit_pointee_modified_inside-returns-in_default-clause-text
emit_pointee_modified_inside-returns-in_default-clause-text g t c =
    let all : c.deref.result.now ≡ c.args.before.now.items ++ c.args.last ∷ [] =
    c.deref.ensures.value ∙ c.in_ok-push.ensures.items in
    other_modified_pointee (λ f. env_of g.P.ModuleProvider.provided f c.args.asker.module_index)
    c.args.self.now c.read.new.self c.args.before.now.items c.args.last
    c.args.seen.now.path.now.items c.args.index.0 (string_bytes c.args.w.now)
    c.in_ok-found.found c.in_ok-found.found c.deref.result.now _
    (string_bytes c.emit_pointed.new.w) c.in_ok-found.ensures.same c.in_ok-found.ensures.value
    refl all (λ x e. c.in_default.not-Pointer x cc) c.emit_pointed.ensures.text

pub emit_array-returns-in_err-elements-clause-text :
    goal.emit_array-returns-in_err-elements-clause-text
emit_array-returns-in_err-elements-clause-text g t c =
    failed _ _ _ _ c.from_residual.ensures.1 (fails_stops _ _ _ _ c.in_err-elements.ensures.value)

pub emit_array-returns-in_err-size-clause-text : goal.emit_array-returns-in_err-size-clause-text
emit_array-returns-in_err-size-clause-text g t c =
    failed _ _ _ _ c.from_residual-in_err-size.ensures.1
    (sure_stops _ _ _ _ c.in_err-size.ensures.value)

pub emit_member_function-returns-in_err-maybe_emit_return_type-clause-text :
    goal.emit_member_function-returns-in_err-maybe_emit_return_type-clause-text
emit_member_function-returns-in_err-maybe_emit_return_type-clause-text g t c =
    failed _ _ _ _ c.from_residual.ensures.1
    (stops_on _ _ _ _ c.in_err-maybe_emit_return_type.ensures.text)

pub emit_member_function-returns-in_err-emit_bare_method-clause-text :
    goal.emit_member_function-returns-in_err-emit_bare_method-clause-text
emit_member_function-returns-in_err-emit_bare_method-clause-text g t c =
    failed _ _ _ _ c.from_residual-in_err-emit_bare_method.ensures.1
    (sure_step _ _ _ _ c.in_err-emit_bare_method.ensures)

pub emit_procedure-returns-in_err-maybe_emit_return_type-clause-text :
    goal.emit_procedure-returns-in_err-maybe_emit_return_type-clause-text
emit_procedure-returns-in_err-maybe_emit_return_type-clause-text g t c =
    failed _ _ _ _ c.from_residual.ensures.1
    (stops_on _ _ _ _ c.in_err-maybe_emit_return_type.ensures.text)

pub emit_procedure-returns-in_err-emit_bare_function-clause-text :
    goal.emit_procedure-returns-in_err-emit_bare_function-clause-text
emit_procedure-returns-in_err-emit_bare_function-clause-text g t c =
    failed _ _ _ _ c.from_residual-in_err-emit_bare_function.ensures.1
    (sure_step _ _ _ _ c.in_err-emit_bare_function.ensures)

pub maybe_emit_return_type-returns-clause-text : goal.maybe_emit_return_type-returns-clause-text
maybe_emit_return_type-returns-clause-text g t c =
    let flags : c.self.inside.flags.bits ≡ c.args.self.now.flags =
    ap (λ (f : Formatting _). f.flags) c.self.view_is in
    let shown : c.shown_return-shown.result ≡ shown_return c.args.self.now.flags c.args.index
    c.args.attributes false = c.shown_return-shown.ensures
    ∙ ap (λ (n : ℕ). shown_return n c.args.index c.args.attributes false) flags in
    subst (λ (x : Printed). Prints c.emit_shown_return.result
    (string_bytes c.emit_shown_return.new.w) x)
    (sym
    (shown_unless (env_of g.P.ModuleProvider.provided c.args.self.now c.args.asker.module_index)
    (visiting (env_of g.P.ModuleProvider.provided c.args.self.now c.args.asker.module_index)
    c.args.seen.now.path.now.items) c.args.seen.now.path.now.items c.args.index
    c.args.attributes (string_bytes c.args.w.now)
    ∙ ap (λ (o : Option TypeIndex). shown_text o
    (env_of g.P.ModuleProvider.provided c.args.self.now c.args.asker.module_index)
    (visiting (env_of g.P.ModuleProvider.provided c.args.self.now c.args.asker.module_index)
    c.args.seen.now.path.now.items) c.args.seen.now.path.now.items
    (string_bytes c.args.w.now)) (sym shown))) c.emit_shown_return.ensures.text

pub emit_return_type-returns-clause-text : goal.emit_return_type-returns-clause-text
emit_return_type-returns-clause-text g t c =
    subst (λ (x : Printed). Prints c.emit_shown_return.result
    (string_bytes c.emit_shown_return.new.w) x)
    (sym
    (shown_behind
    (env_of g.P.ModuleProvider.provided c.args.self.now c.args.asker.module_index)
    c.self.inside.flags.bits
    (visiting (env_of g.P.ModuleProvider.provided c.args.self.now c.args.asker.module_index)
    c.args.seen.now.path.now.items) c.args.seen.now.path.now.items c.args.index
    c.args.attributes (string_bytes c.args.w.now)
    ∙ ap (λ (o : Option TypeIndex). shown_text o
    (env_of g.P.ModuleProvider.provided c.args.self.now c.args.asker.module_index)
    (visiting (env_of g.P.ModuleProvider.provided c.args.self.now c.args.asker.module_index)
    c.args.seen.now.path.now.items) c.args.seen.now.path.now.items
    (string_bytes c.args.w.now)) (sym c.shown_return-shown.ensures)))
    c.emit_shown_return.ensures.text

pub emit_shown_return-returns-in_default-clause-text :
    goal.emit_shown_return-returns-in_default-clause-text
emit_shown_return-returns-in_default-clause-text g t c = rw c.in_default.is

pub emit_shown_return-returns-in_err-emit_type_index-clause-text :
    goal.emit_shown_return-returns-in_err-emit_type_index-clause-text
emit_shown_return-returns-in_err-emit_type_index-clause-text g t c =
    failed _ _ _ _ c.from_residual.ensures.1
    (rw c.in-Some.is (stops_on _ _ _ _ c.in_err-emit_type_index.ensures.text))

pub emit_shown_return-returns-clause-text : goal.emit_shown_return-returns-clause-text
emit_shown_return-returns-clause-text g t c =
    rw c.in-Some.is (goes_on _ _ _ _ _ c.in_ok-emit_type_index.ensures.text c.emit.ensures)

pub emit_argument_list_inside-returns-in_err-list-clause-text :
    goal.emit_argument_list_inside-returns-in_err-list-clause-text
emit_argument_list_inside-returns-in_err-list-clause-text g t c =
    failed _ _ _ _ c.from_residual.ensures.1 (fails_stops _ _ _ _ c.in_err-list.ensures.value)

pub emit_modified_inside-returns-in_err-found-clause-text :
    goal.emit_modified_inside-returns-in_err-found-clause-text
emit_modified_inside-returns-in_err-found-clause-text g t c =
    failed _ _ _ _ c.from_residual.ensures.1 (fails_stops _ _ _ _ c.in_err-found.ensures.value)

pub emit_pointee_inside-returns-in_err-found-clause-text :
    goal.emit_pointee_inside-returns-in_err-found-clause-text
emit_pointee_inside-returns-in_err-found-clause-text g t c =
    failed _ _ _ _ c.from_residual.ensures.1 (fails_stops _ _ _ _ c.in_err-found.ensures.value)

pub emit_pointee_modified_inside-returns-in_err-found-clause-text :
    goal.emit_pointee_modified_inside-returns-in_err-found-clause-text
emit_pointee_modified_inside-returns-in_err-found-clause-text g t c =
    failed _ _ _ _ c.from_residual.ensures.1 (fails_stops _ _ _ _ c.in_err-found.ensures.value)

pub emit_member_pointer-returns-in_err-emit-clause-text :
    goal.emit_member_pointer-returns-in_err-emit-clause-text
emit_member_pointer-returns-in_err-emit-clause-text g t c =
    failed _ _ _ _ c.from_residual-in_err-emit.ensures.1 (sure_step _ _ _ _ c.in_err-emit.ensures)

pub emit_member_pointer-returns-in_err-emit_pointers-clause-text :
    goal.emit_member_pointer-returns-in_err-emit_pointers-clause-text
emit_member_pointer-returns-in_err-emit_pointers-clause-text g t c =
    failed _ _ _ _ c.from_residual-in_err-emit_pointers.ensures.1
    (sure_step _ _ _ _ c.in_err-emit_pointers.ensures)

pub emit_member_pointer-returns-in_err-emit-2-clause-text :
    goal.emit_member_pointer-returns-in_err-emit-2-clause-text
emit_member_pointer-returns-in_err-emit-2-clause-text g t c =
    failed _ _ _ _ c.from_residual-in_err-emit-2.ensures.1
    (sure_step _ _ _ _ c.in_err-emit-2.ensures)

pub emit_member_pointer-returns-in_err-emit_return_type-clause-text :
    goal.emit_member_pointer-returns-in_err-emit_return_type-clause-text
emit_member_pointer-returns-in_err-emit_return_type-clause-text g t c =
    failed _ _ _ _ c.from_residual.ensures.1
    (stops_on _ _ _ _ c.in_err-emit_return_type.ensures.text)

pub emit_procedure_pointer-returns-in_err-emit-clause-text :
    goal.emit_procedure_pointer-returns-in_err-emit-clause-text
emit_procedure_pointer-returns-in_err-emit-clause-text g t c =
    failed _ _ _ _ c.from_residual-in_err-emit.ensures.1 (sure_step _ _ _ _ c.in_err-emit.ensures)

pub emit_procedure_pointer-returns-in_err-emit_pointers-clause-text :
    goal.emit_procedure_pointer-returns-in_err-emit_pointers-clause-text
emit_procedure_pointer-returns-in_err-emit_pointers-clause-text g t c =
    failed _ _ _ _ c.from_residual-in_err-emit_pointers.ensures.1
    (sure_step _ _ _ _ c.in_err-emit_pointers.ensures)

pub emit_procedure_pointer-returns-in_err-emit-2-clause-text :
    goal.emit_procedure_pointer-returns-in_err-emit-2-clause-text
emit_procedure_pointer-returns-in_err-emit-2-clause-text g t c =
    failed _ _ _ _ c.from_residual-in_err-emit-2.ensures.1
    (sure_step _ _ _ _ c.in_err-emit-2.ensures)

pub emit_procedure_pointer-returns-in_err-emit_return_type-clause-text :
    goal.emit_procedure_pointer-returns-in_err-emit_return_type-clause-text
emit_procedure_pointer-returns-in_err-emit_return_type-clause-text g t c =
    failed _ _ _ _ c.from_residual.ensures.1
    (stops_on _ _ _ _ c.in_err-emit_return_type.ensures.text)

pub emit_copied-returns-in_err-printed-clause-text :
    goal.emit_copied-returns-in_err-printed-clause-text
emit_copied-returns-in_err-printed-clause-text g t c =
    failed _ _ _ _ c.from_residual-in_err-printed.ensures.1
    (stops_in_copy (env_of g.P.ModuleProvider.provided c.args.self.now c.args.asker.module_index)
    (room c.args.seen.now.path.now.items) c.args.seen.now.path.now.items c.args.index _
    (string_bytes c.new-argument.result) (string_bytes c.args.w.now) (string_bytes c.emit.new.w)
    (string_bytes c.emit_type_index-printed.new.w) c.deref.result.now _ c.requires.no_sign
    c.new-argument.ensures.bytes c.deref.ensures c.in_ok-emit.ensures
    c.in_err-printed.ensures.text)

pub emit_copied-returns-clause-text : goal.emit_copied-returns-clause-text
emit_copied-returns-clause-text g t c =
    copied (env_of g.P.ModuleProvider.provided c.args.self.now c.args.asker.module_index)
    (room c.args.seen.now.path.now.items) c.args.seen.now.path.now.items c.args.index
    c.args.repeats c.flags.result.bits (string_bytes c.new-argument.result)
    (string_bytes c.args.w.now) (string_bytes c.emit.new.w)
    (string_bytes c.emit_type_index-printed.new.w) c.deref.result.now c.deref-2.result.now
    c.emit_copies.result (string_bytes c.emit_copies.new.w) c.requires.no_sign
    c.new-argument.ensures.bytes c.deref.ensures c.deref-2.ensures
    (c.flags.ensures ∙ ap (λ (f : Formatting _). f.flags) c.in_ok-printed.ensures.same)
    c.in_ok-printed.ensures.text c.in_ok-emit.ensures c.emit_copies.ensures

pub emit_first_and_more-returns-in_err-emit_repeated-clause-text :
    goal.emit_first_and_more-returns-in_err-emit_repeated-clause-text
emit_first_and_more-returns-in_err-emit_repeated-clause-text g t c =
    failed _ _ _ _ c.from_residual-in_err-emit_repeated.ensures.1
    (first_stops (env_of g.P.ModuleProvider.provided c.args.self.now c.args.asker.module_index)
    (visiting (env_of g.P.ModuleProvider.provided c.args.self.now c.args.asker.module_index)
    c.args.seen.now.path.now.items) c.args.seen.now.path.now.items c.args.first
    c.run_within-run.result.repeats c.args.more.now c.run_within-run.result.rest.now
    (string_bytes c.args.w.now) (string_bytes c.emit_repeated.new.w) _
    c.run_within-run.ensures.list c.in_err-emit_repeated.ensures.text)

pub emit_first_and_more-returns-clause-text : goal.emit_first_and_more-returns-clause-text
emit_first_and_more-returns-clause-text g t c =
    first_goes_on (λ f. env_of g.P.ModuleProvider.provided f c.args.asker.module_index)
    c.args.self.now c.emit_repeated.new.self c.args.seen.now.path.now.items
    c.emit_repeated.new.seen.path.now.items c.args.first c.run_within-run.result.repeats
    c.args.more.now c.run_within-run.result.rest.now (string_bytes c.args.w.now)
    (string_bytes c.emit_repeated.new.w) c.emit_more_arguments-2.result
    (string_bytes c.emit_more_arguments-2.new.w) c.in_ok-emit_repeated.ensures.same
    c.in_ok-emit_repeated.ensures.level.path c.run_within-run.ensures.list
    c.in_ok-emit_repeated.ensures.text c.emit_more_arguments-2.ensures.text

pub emit_more_arguments-returns-in_err-emit_repeated-clause-text :
    goal.emit_more_arguments-returns-in_err-emit_repeated-clause-text
emit_more_arguments-returns-in_err-emit_repeated-clause-text g t c =
    failed _ _ _ _ c.from_residual-in_err-emit_repeated.ensures.1
    (run_stops (λ f. env_of g.P.ModuleProvider.provided f c.args.asker.module_index)
    c.args.self.now c.loop-run.self c.args.seen.now.path.now.items
    c.loop-run.seen.path.now.items c.flags.result.bits c.in-Some.run'.argument
    c.in-Some.run'.repeats c.loop-run.rest.now c.in-Some.run'.rest.now
    (string_bytes c.loop-run.w) (string_bytes c.emit_comma.new.w)
    (string_bytes c.emit_repeated.new.w) _ _ c.loop-run.invariant.same
    c.loop-run.invariant.level.path c.flags.ensures c.in-Some.ensures c.in_ok-emit_comma.ensures
    c.in_err-emit_repeated.ensures.text c.loop-run.invariant.text)

pub emit_more_arguments-loop-run-preserved : goal.emit_more_arguments-loop-run-preserved
emit_more_arguments-loop-run-preserved g t c = record {
  same = c.in_ok-emit_repeated.ensures.same ∙ c.loop-run.invariant.same;
  level = record {
    same_reference = c.in_ok-emit_repeated.ensures.level.same_reference
        ∙ c.loop-run.invariant.level.same_reference;
    level = c.in_ok-emit_repeated.ensures.level.level ∙ c.loop-run.invariant.level.level;
    path = c.in_ok-emit_repeated.ensures.level.path ∙ c.loop-run.invariant.level.path;
  };
  text = run_goes_on (λ f. env_of g.P.ModuleProvider.provided f c.args.asker.module_index)
      c.args.self.now c.loop-run.self c.args.seen.now.path.now.items
      c.loop-run.seen.path.now.items c.flags.result.bits c.in-Some.run'.argument
      c.in-Some.run'.repeats c.loop-run.rest.now c.in-Some.run'.rest.now
      (string_bytes c.loop-run.w) (string_bytes c.emit_comma.new.w)
      (string_bytes c.emit_repeated.new.w) _ c.loop-run.invariant.same
      c.loop-run.invariant.level.path c.flags.ensures c.in-Some.ensures c.in_ok-emit_comma.ensures
      c.in_ok-emit_repeated.ensures.text c.loop-run.invariant.text;
}
