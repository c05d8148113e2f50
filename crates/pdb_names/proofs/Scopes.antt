-- Functions in their scopes, where a scope stops the printing.
use Rattle.std.proofs.Common.{◌≡◌, sym, subst}
use Rattle.pdb_records.specs.declared.type_data.ProcedureType.{ProcedureType}
use Rattle.pdb_records.specs.IdForms.{FunctionForm}
use Rattle.pdb_resolving.specs.declared.stop.Stop.{Stop}
use Rattle.pdb_type_printing.specs.Printed.{Text, Printed, Done, ◌>>=◌, Stops}
use Rattle.pdb_type_printing.specs.Paths.{Path}
use Rattle.pdb_type_printing.specs.Env.{Env}
use Rattle.pdb_names.specs.Ids.{VisitId, visiting_id, returned_by, scope_text, scoped_text}
use Rattle.pdb_names.specs.Ids.{unscoped_text}
use Rattle.pdb_type_printing.proofs.Others.{stops_on}

-- where the return type was printed, what stops the scope stops the function
scope_ends : (env : Env) (visit : VisitId) (ids : Path) (id : FunctionForm) (t : ProcedureType)
    (w w1 new : Text) (e : Stop) → returned_by id.function_type t env w ≡ Done w1
    → Stops e new (scope_text id.scope env visit ids w1)
    → Stops e new (scoped_text id t env visit ids w)
scope_ends env visit ids id t w w1 new e returned stopped =
    subst
    (λ (x : Printed). Stops e new (x >>= λ w. scope_text id.scope env visit ids w
    >>= λ w. unscoped_text id t env w)) (sym returned)
    (stops_on e new (scope_text id.scope env visit ids w1) (λ w. unscoped_text id t env w) stopped)

-- what stops the scope stops the function, by what was asked in between
pub scope_stops : {F : Type 0} (env : F → Env) (f f' : F) (ids : Path) (id : FunctionForm)
    (t : ProcedureType) (w w1 new : Text) (e : Stop) → f' ≡ f
    → returned_by id.function_type t (env f) w ≡ Done w1
    → Stops e new (scope_text id.scope (env f') (visiting_id (env f') ids) ids w1)
    → Stops e new (scoped_text id t (env f) (visiting_id (env f) ids) ids w)
scope_stops {F} env f f' ids id t w w1 new e same returned stopped =
    scope_ends (env f) (visiting_id (env f) ids) ids id t w w1 new e returned
    (subst (λ (x : F). Stops e new (scope_text id.scope (env x) (visiting_id (env x) ids) ids w1))
    same stopped)
