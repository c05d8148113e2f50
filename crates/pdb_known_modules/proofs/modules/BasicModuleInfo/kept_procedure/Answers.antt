use Rattle.std.proofs.Common.{◌≡◌, Some, sym, ap, subst, ◌∙◌}
use Rattle.std.specs.Prelude.{slice_get, option_map}
use Rattle.pdb_known_modules.specs.KnownModules.{ModuleData}
use Rattle.pdb_known_modules.specs.ProcedureData.{IsReadBy, IsOfProcedure}
use Rattle.pdb_known_modules.proofs.KeptProcedures.{lent_of_held}
use Rattle.pdb_known_modules.proofs.modules.BasicModuleInfo.kept_procedure.Goals as goal

pub returns-in-Some-Some : goal.returns-in-Some-Some
returns-in-Some-Some g c =
    let kept = c.self.inside.kept_procedures.items in
    let stream = c.args.self.now.stream in
    let q = c.args.procedure.now in
    let at : slice_get kept c.args.number ≡ Some (Some c.in-Some-Some.data) =
    sym c.slot_at.ensures ∙ ap (option_map (λ p. p.now)) c.in-Some-Some.is
    ∙ ap Some c.in-Some-Some.field-0-is in
    let has = subst (IsReadBy q) c.deref.ensures (c.is_of.ensures.0 c.if-is_of.true) in
    let same = ap (λ (m : ModuleData). m.stream) c.self.view_is in
    λ extended is. subst (IsOfProcedure stream extended q) (sym c.as_ref.ensures)
    (lent_of_held _ stream kept c.args.number c.in-Some-Some.data q same (c.self.invariant.2) at has
    extended is)
