-- What an id is printed as, by whether it may go on the path of ids.
use Rattle.std.proofs.Common.{◌≡◌, ℕ, false, cond, [], ◌∷◌, ◌++◌, length, Result, Ok, refl, subst}
use Rattle.std.proofs.Common.{arith, inl, inr}
use Rattle.std.proofs.lemmas.Bool.{cases_lt, lt-ltb, le-ltb}
use Rattle.pdb_container.specs.declared.error.Error.TheVariants as causes
use Rattle.pdb_records.specs.IdForms.{IdForm}
use Rattle.pdb_resolving.specs.declared.error.Error.TheVariants as errors
use Rattle.pdb_resolving.specs.declared.stop.Stop.{Stop}
use Rattle.pdb_resolving.specs.declared.stop.Stop.TheVariants as stops
use Rattle.pdb_resolving.specs.Cause.{ByFault, Ends}
use Rattle.pdb_resolving.specs.Fault.{CircularTypeDefinition}
use Rattle.pdb_type_printing.specs.Printed.{Text, Printed, Stopped, Prints, PrintsUnread}
use Rattle.pdb_type_printing.specs.Paths.{Path, room, may_enter}
use Rattle.pdb_type_printing.specs.Env.{Env}
use Rattle.pdb_type_printing.proofs.Visits.{room_more, never_read}
use Rattle.pdb_names.specs.Ids.{visit_id, visiting_id, entering_id, id_form_text}

never_id : (env : Env) (i : ℕ) (w : Text) (k k' : IdForm → Printed)
    → entering_id env false i w k ≡ entering_id env false i w k'
never_id env i w k k' = never_read i w (env.read_id i) k k'

visit_id_is : (env : Env) (ids : Path) (i : ℕ) (w : Text)
    → visit_id env (room ids) ids i w ≡ entering_id env (may_enter ids i) i w
    (λ form. id_form_text form env (visit_id env (room (ids ++ i ∷ []))) (ids ++ i ∷ []) w)
unfolding visit_id
visit_id_is env ids i w =
    elim (cases_lt (length ids) 1024) [
      | inl lt ↦ rw (room_more ids i lt, lt-ltb _ _ lt) refl
      | inr le ↦ let k : room ids ≡ 0 = omega arith in
          rw (k, le-ltb _ _ le)
          (never_id env i w (λ form. Stopped (ByFault (CircularTypeDefinition i)) w)
          (λ form. id_form_text form env (visit_id env (room (ids ++ i ∷ []))) (ids ++ i ∷ []) w))
    ]

-- an id that could not be read
pub id_unread : (env : Env) (ids : Path) (i : ℕ) (w : Text) {A : Type 0} (s : Stop)
    (r : Result A Stop) (new : Text) → Ends s (env.read_id i) → PrintsUnread s r new w
    → Prints r new (visiting_id env ids ids i w)
id_unread env ids i w (stops.ByError errors.OutOfMemory) r new h p = rw p tt
id_unread env ids i w (stops.ByError (errors.PdbError causes.OutOfMemory)) r new h p = absurd h
id_unread env ids i w (stops.ByError (errors.FormatError cause)) r new h p = absurd h
id_unread env ids i w (stops.ByError e) r new h p = rw (visit_id_is env ids i w, h) p
id_unread env ids i w (stops.ByTable table e) r new h p = rw (visit_id_is env ids i w, h.1) (p h.0)

-- an id that was read, by a formatter that is the same afterwards
pub id_read : {F : Type 0} (env : F → Env) (f f' : F) (ids : Path) (i : ℕ) (w : Text)
    (form : IdForm) {A : Type 0} (r : Result A Stop) (new : Text) → f' ≡ f
    → (env f).read_id i ≡ Ok form
    → Prints r new
    (cond (may_enter ids i)
    (id_form_text form (env f') (visiting_id (env f') (ids ++ i ∷ [])) (ids ++ i ∷ []) w)
    (Stopped (ByFault (CircularTypeDefinition i)) w))
    → Prints r new (visiting_id (env f) ids ids i w)
id_read {F} env f f' ids i w form r new same h p =
    let q =
    subst
    (λ (x : F). Prints r new
    (cond (may_enter ids i)
    (id_form_text form (env x) (visiting_id (env x) (ids ++ i ∷ [])) (ids ++ i ∷ []) w)
    (Stopped (ByFault (CircularTypeDefinition i)) w))) same p in
    rw (visit_id_is (env f) ids i w, h) q
