-- What an index is printed as, by whether it may go on the path.
use Rattle.std.proofs.Common.{◌≡◌, ℕ, suc, ◌<◌, Bool, true, false, cond, [], ◌∷◌, ◌++◌, length}
use Rattle.std.proofs.Common.{Result, Ok, Err, refl, sym, ap, subst, ◌∙◌, arith, inl, inr}
use Rattle.std.proofs.lemmas.Bool.{cases_lt, lt-ltb, le-ltb}
use Rattle.std.proofs.lemmas.List.{length-append}
use Rattle.pdb_container.specs.declared.error.Error.TheVariants as causes
use Rattle.pdb_records.specs.Forms.{TypeForm}
use Rattle.pdb_resolving.specs.declared.error.Error.{Error}
use Rattle.pdb_resolving.specs.declared.error.Error.TheVariants as errors
use Rattle.pdb_resolving.specs.declared.stop.Stop.{Stop}
use Rattle.pdb_resolving.specs.declared.stop.Stop.TheVariants as stops
use Rattle.pdb_resolving.specs.Cause.{Cause, ByFault, Ends}
use Rattle.pdb_resolving.specs.Fault.{CircularTypeDefinition}
use Rattle.pdb_type_printing.specs.Printed.{Text, Printed, Stopped, Prints, PrintsUnread, Stops}
use Rattle.pdb_type_printing.specs.Printed.{unread, caught, read_or}
use Rattle.pdb_type_printing.specs.Paths.{Path, room, may_enter, Blocked}
use Rattle.pdb_type_printing.specs.Env.{Env}
use Rattle.pdb_type_printing.specs.Types.{Task, Whole, PointedTo, PointedModified, Modified}
use Rattle.pdb_type_printing.specs.Types.{MethodArguments, record_text, visit, visiting, visited}
use Rattle.pdb_type_printing.specs.Types.{entering, inside_text}
use Rattle.pdb_type_printing.proofs.Failing.{circular_stops}

-- an index on the path takes one step of room
pub room_more : (path : Path) (i : ℕ) → length path < 1024 → room path ≡ suc (room (path ++ i ∷ []))
room_more path i lt = omega (arith, length-append path (i ∷ []))

-- what could not be read has its text whatever is printed of what was
pub never_read : {A : Type 0} (i : ℕ) (w : Text) (r : Result A Cause) (k k' : A → Printed)
    → read_or (λ e. unread e w) r
    (λ form. cond false (k form) (Stopped (ByFault (CircularTypeDefinition i)) w))
    ≡ read_or (λ e. unread e w) r
    (λ form. cond false (k' form) (Stopped (ByFault (CircularTypeDefinition i)) w))
never_read i w (Ok form) k k' = refl
never_read i w (Err e) k k' = refl

never : (env : Env) (task : Task) (i : ℕ) (w : Text) (k k' : TypeForm → Printed)
    → entering env false task i w k ≡ entering env false task i w k'
never env Whole i w k k' = never_read i w (env.read i) k k'
never env (PointedTo before p) i w k k' = refl
never env (PointedModified before p) i w k k' = refl
never env (Modified c) i w k k' = refl
never env (MethodArguments class this says) i w k k' = refl

-- what is printed of an index once it is on the path and was read
abbrev pub onward : Env → Task → Path → ℕ → Text → TypeForm → Printed
onward env task path i w form = visited task form env (visit env (room (path ++ i ∷ []))) (path ++ i
    ∷ []) w

-- what is printed of an index, by whether it may go on the path
pub visit_is : (env : Env) (task : Task) (path : Path) (i : ℕ) (w : Text)
    → visit env (room path) task path i w ≡ entering env (may_enter path i) task i w
    (onward env task path i w)
unfolding visit
visit_is env task path i w =
    elim (cases_lt (length path) 1024) [
      | inl lt ↦ rw (room_more path i lt, lt-ltb _ _ lt) refl
      | inr le ↦ let k : room path ≡ 0 = omega arith in
          rw (k, le-ltb _ _ le) (never env task i w _ _)
    ]

-- the tasks for which an index goes on the path before it is read
abbrev pub IsDeep : Task → Type 0
IsDeep Whole = ⊥
IsDeep (PointedTo before p) = Unit {0}
IsDeep (PointedModified before p) = Unit {0}
IsDeep (Modified c) = Unit {0}
IsDeep (MethodArguments class this says) = Unit {0}

deep : (env : Env) (task : Task) (free : Bool) (i : ℕ) (w : Text) (k : TypeForm → Printed)
    → IsDeep task → entering env free task i w k
    ≡ cond free (read_or (λ e. Stopped e w) (env.read i) k)
    (Stopped (ByFault (CircularTypeDefinition i)) w)
deep env Whole free i w k h = absurd h
deep env (PointedTo before p) free i w k h = refl
deep env (PointedModified before p) free i w k h = refl
deep env (Modified c) free i w k h = refl
deep env (MethodArguments class this says) free i w k h = refl

deep_ok : (env : Env) (task : Task) (path inner : Path) (i : ℕ) (w : Text) {A : Type 0}
    (r : Result A Stop) (new : Text) → IsDeep task → may_enter path i ≡ true
    → inner ≡ path ++ i ∷ []
    → Prints r new (inside_text task i env (visiting env inner) inner w) → Prints r new (visiting
    env path task path i w)
deep_ok env task path inner i w r new h free same p =
    let q : Prints r new (inside_text task i env (visiting env (path ++ i ∷ [])) (path ++ i ∷ []) w)
    =
    subst (λ (x : Path). Prints r new (inside_text task i env (visiting env x) x w)) same p in
    let e : visit env (room path) task path i w ≡ inside_text task i env (visiting env (path ++ i ∷
    [])) (path ++ i ∷ []) w =
    visit_is env task path i w ∙ deep env task (may_enter path i) i w (onward env task path i w)
    h
    ∙ ap
    (λ (b : Bool). cond b (read_or (λ e. Stopped e w) (env.read i) (onward env task path i w))
    (Stopped (ByFault (CircularTypeDefinition i)) w)) free in
    subst (λ (x : Printed). Prints r new x) (sym e) q

circular : (env : Env) (task : Task) (path : Path) (i : ℕ) (w : Text) → IsDeep task
    → may_enter path i ≡ false → visit env (room path) task path i w
    ≡ Stopped (ByFault (CircularTypeDefinition i)) w
circular env task path i w h full = visit_is env task path i w
    ∙ deep env task (may_enter path i) i w (onward env task path i w) h
    ∙ ap (λ (b : Bool). cond b (read_or (λ e. Stopped e w) (env.read i) (onward env task path i w))
    (Stopped (ByFault (CircularTypeDefinition i)) w)) full

deep_err : (env : Env) (task : Task) (path inner : Path) (i : ℕ) (w : Text) (e : Error)
    → IsDeep task → Blocked e path inner i
    → Stops (stops.ByError e) w (visiting env path task path i w)
deep_err env task path inner i w errors.OutOfMemory h blocked = tt
deep_err env task path inner i w e h blocked =
    circular_stops e i w _ blocked.2 (circular env task path i w h blocked.1)

-- in a level that begins where the path is
pub level_ok : (env : Env) (task : Task) (path start inner : Path) (i : ℕ) (w : Text) {A : Type 0}
    (r : Result A Stop) (new : Text) → IsDeep task → start ≡ path
    → (inner ≡ start ++ i ∷ []) × (may_enter start i ≡ true)
    → Prints r new (inside_text task i env (visiting env inner) inner w) → Prints r new (visiting
    env path task path i w)
level_ok env task path start inner i w r new h begins entered p =
    subst (λ (x : Path). Prints r new (visiting env x task x i w)) begins
    (deep_ok env task start inner i w r new h entered.1 entered.0 p)

-- what a level leaves of an index that may not go on the path
pub level_err : (env : Env) (task : Task) (path start inner : Path) (i : ℕ) (w : Text) (e : Error)
    → IsDeep task → start ≡ path → Blocked e start inner i
    → Stops (stops.ByError e) w (visiting env path task path i w)
level_err env task path start inner i w e h begins blocked =
    subst (λ (x : Path). Stops (stops.ByError e) w (visiting env x task x i w)) begins
    (deep_err env task start inner i w e h blocked)

-- what an index leaves that was read already, but may not go on the path
blocked_stops : (path inner : Path) (i : ℕ) (w : Text) (p : Printed) (e : Error)
    → Blocked e path inner i → Stops (stops.ByError e) w
    (cond (may_enter path i) p (Stopped (ByFault (CircularTypeDefinition i)) w))
blocked_stops path inner i w p errors.OutOfMemory blocked = tt
blocked_stops path inner i w p e blocked =
    circular_stops e i w
    (cond (may_enter path i) p (Stopped (ByFault (CircularTypeDefinition i)) w)) blocked.2
    (rw blocked.1 refl)

-- what a level leaves that begins where the path is
pub entered_err : (path start inner : Path) (i : ℕ) (w : Text) (p : Printed) (e : Error)
    → start ≡ path → Blocked e start inner i → Stops (stops.ByError e) w
    (cond (may_enter path i) p (Stopped (ByFault (CircularTypeDefinition i)) w))
entered_err path start inner i w p e begins blocked =
    subst (λ (x : Path). Stops (stops.ByError e) w
    (cond (may_enter x i) p (Stopped (ByFault (CircularTypeDefinition i)) w))) begins
    (blocked_stops start inner i w p e blocked)

-- what could not be read, where its text is printed
pub whole_unread : (env : Env) (path : Path) (i : ℕ) (w : Text) {A : Type 0} (s : Stop)
    (r : Result A Stop) (new : Text) → Ends s (env.read i) → PrintsUnread s r new w
    → Prints r new (visiting env path Whole path i w)
whole_unread env path i w (stops.ByError errors.OutOfMemory) r new h p = rw p tt
whole_unread env path i w (stops.ByError (errors.PdbError causes.OutOfMemory)) r new h p = absurd h
whole_unread env path i w (stops.ByError (errors.FormatError cause)) r new h p = absurd h
whole_unread env path i w (stops.ByError e) r new h p = rw (visit_is env Whole path i w, h) p
whole_unread env path i w (stops.ByTable table e) r new h p =
    rw (visit_is env Whole path i w, h.1) (p h.0)

-- what was read, by a formatter that is the same afterwards
pub whole_read : {F : Type 0} (env : F → Env) (f f' : F) (path : Path) (i : ℕ) (w : Text)
    (form : TypeForm) {A : Type 0} (r : Result A Stop) (new : Text) → f' ≡ f
    → (env f).read i ≡ Ok form
    → Prints r new
    (cond (may_enter path i)
    (caught (record_text form (env f') (visiting (env f') (path ++ i ∷ [])) (path ++ i ∷ []) w))
    (Stopped (ByFault (CircularTypeDefinition i)) w))
    → Prints r new (visiting (env f) path Whole path i w)
whole_read {F} env f f' path i w form r new same h p =
    let q =
    subst
    (λ (x : F). Prints r new
    (cond (may_enter path i)
    (caught (record_text form (env x) (visiting (env x) (path ++ i ∷ [])) (path ++ i ∷ []) w))
    (Stopped (ByFault (CircularTypeDefinition i)) w))) same p in
    rw (visit_is (env f) Whole path i w, h) q
