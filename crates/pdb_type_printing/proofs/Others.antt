-- Records that aren't of the forms that a case is about.
use Rattle.std.proofs.Common.{◌≡◌, ℕ, Bool, true, List, [], ◌∷◌, ◌++◌, reverse, Result, Ok, refl}
use Rattle.std.proofs.Common.{sym, ap, subst}
use Rattle.pdb_container.specs.declared.error.Error.TheVariants as causes
use Rattle.pdb_records.specs.declared.primitive.PrimitiveType.{PrimitiveType}
use Rattle.pdb_records.specs.declared.type_data.ArrayType.{ArrayType}
use Rattle.pdb_records.specs.declared.type_data.MemberFunctionType.{MemberFunctionType}
use Rattle.pdb_records.specs.declared.type_data.ModifierType.{ModifierType}
use Rattle.pdb_records.specs.declared.type_data.PointerType.{PointerType}
use Rattle.pdb_records.specs.declared.type_data.ProcedureType.{ProcedureType}
use Rattle.pdb_records.specs.declared.type_data.TypeData.{TypeData}
use Rattle.pdb_records.specs.declared.type_data.TypeData as types
use Rattle.pdb_records.specs.Shapes.{shape}
use Rattle.pdb_resolving.specs.declared.error.Error.TheVariants as errors
use Rattle.pdb_resolving.specs.declared.stop.Stop.{Stop}
use Rattle.pdb_resolving.specs.declared.stop.Stop.TheVariants as stops
use Rattle.pdb_type_printing.specs.declared.pointers.PointerLevel.{PointerLevel}
use Rattle.pdb_type_printing.specs.Printed.{Text, Printed, ◌>>=◌, say, caught, Stops, Prints}
use Rattle.pdb_type_printing.specs.Paths.{Path}
use Rattle.pdb_type_printing.specs.Pointers.{pointers_text, ends_in_sigil}
use Rattle.pdb_type_printing.specs.Env.{Env}
use Rattle.pdb_type_printing.specs.Types.{Visit, PointedTo, PointedModified, Modified, visiting}
use Rattle.pdb_type_printing.specs.Types.{visited, plain_text, record_text, pointed_text}
use Rattle.pdb_type_printing.specs.Types.{modified_text, inside_text}

-- a record that is no array is printed as it is
pub no_array : (env : Env) (visit : Visit) (path : Path) (t : TypeData) (w : Text)
    → ((x : ArrayType) → t ≡ types.Array x → ⊥)
    → record_text (shape t) env visit path w ≡ plain_text (shape t) env visit path w
unfolding Rattle.pdb_type_printing.specs.Arrays.elements_from types.out-TypeData
    denote.Hole.Carrier.out
no_array env visit path (types.Array x) w h = absurd (h x refl)
no_array env visit path t w h = refl

-- what pointers point to is printed before them, where it is no function
pub no_function : (env : Env) (visit : Visit) (path : Path) (ps : List PointerLevel) (t : TypeData)
    (w : Text) → ((x : MemberFunctionType) → t ≡ types.MemberFunction x → ⊥)
    → ((x : ProcedureType) → t ≡ types.Procedure x → ⊥)
    → pointed_text ps (shape t) env visit path w
    ≡ (caught (record_text (shape t) env visit path w)
    >>= λ w. say (pointers_text env.flags true (ends_in_sigil w) (reverse ps)) w)
unfolding types.out-TypeData denote.Hole.Carrier.out
no_function env visit path ps (types.MemberFunction x) w h h' = absurd (h x refl)
no_function env visit path ps (types.Procedure x) w h h' = absurd (h' x refl)
no_function env visit path ps t w h h' = refl

no_pointee : (env : Env) (visit : Visit) (before : List PointerLevel) (p : PointerLevel)
    (path : Path) (t : TypeData) (w : Text) → ((x : PointerType) → t ≡ types.Pointer x → ⊥)
    → ((x : ModifierType) → t ≡ types.Modifier x → ⊥)
    → visited (PointedTo before p) (shape t) env visit path w
    ≡ pointed_text (before ++ p ∷ []) (shape t) env visit path w
unfolding types.out-TypeData denote.Hole.Carrier.out
no_pointee env visit before p path (types.Pointer x) w h h' = absurd (h x refl)
no_pointee env visit before p path (types.Modifier x) w h h' = absurd (h' x refl)
no_pointee env visit before p path t w h h' = refl

no_pointer : (env : Env) (visit : Visit) (before : List PointerLevel) (p : PointerLevel)
    (path : Path) (t : TypeData) (w : Text) → ((x : PointerType) → t ≡ types.Pointer x → ⊥)
    → visited (PointedModified before p) (shape t) env visit path w
    ≡ pointed_text (before ++ p ∷ []) (shape t) env visit path w
unfolding types.out-TypeData denote.Hole.Carrier.out
no_pointer env visit before p path (types.Pointer x) w h = absurd (h x refl)
no_pointer env visit before p path t w h = refl

no_modified : (env : Env) (visit : Visit) (constant : Bool) (path : Path) (t : TypeData) (w : Text)
    → ((x : PrimitiveType) → t ≡ types.Primitive x → ⊥)
    → ((x : PointerType) → t ≡ types.Pointer x → ⊥)
    → visited (Modified constant) (shape t) env visit path w
    ≡ modified_text constant (shape t) env visit path w
unfolding types.out-TypeData denote.Hole.Carrier.out
no_modified env visit constant path (types.Primitive x) w h h' = absurd (h x refl)
no_modified env visit constant path (types.Pointer x) w h h' = absurd (h' x refl)
no_modified env visit constant path t w h h' = refl

-- what stopped stops what follows
pub stops_on : (s : Stop) (new : Text) (p : Printed) (more : Text → Printed) → Stops s new p
    → Stops s new (p >>= more)
stops_on (stops.ByError errors.OutOfMemory) new p more h = tt
stops_on (stops.ByError (errors.PdbError causes.OutOfMemory)) new p more h = h
stops_on (stops.ByError (errors.FormatError cause)) new p more h = h
stops_on (stops.ByError e) new p more h = ap (λ x. x >>= more) h
stops_on (stops.ByTable table e) new p more h = (h.0, ap (λ x. x >>= more) h.1)

-- what pointers point to is the same by a formatter, a record and pointers that are the same
pointed_same : {F : Type 0} (env : F → Env) (f f' : F) (path : Path) (w : Text) (t t' : TypeData)
    (ps all : List PointerLevel) {A : Type 0} (r : Result A Stop) (new : Text)
    → f' ≡ f → t' ≡ t → ps ≡ all
    → Prints r new (pointed_text ps (shape t') (env f') (visiting (env f') path) path w)
    → Prints r new (pointed_text all (shape t) (env f) (visiting (env f) path) path w)
pointed_same {F} env f f' path w t t' ps all r new same is are printed =
    let q1 =
    subst
    (λ (x : F). Prints r new
    (pointed_text ps (shape t') (env x) (visiting (env x) path) path w)) same printed in
    let q2 =
    subst (λ (x : List PointerLevel). Prints r new
    (pointed_text x (shape t') (env f) (visiting (env f) path) path w)) are q1 in
    subst (λ (x : TypeData). Prints r new
    (pointed_text all (shape x) (env f) (visiting (env f) path) path w)) is q2

-- what pointers point to, once an index was read: neither a pointer nor a Modifier
pub other_pointee : {F : Type 0} (env : F → Env) (f f' : F) (before : List PointerLevel)
    (p : PointerLevel) (path : Path) (i : ℕ) (w : Text) (t t' : TypeData) (ps : List PointerLevel)
    {A : Type 0} (r : Result A Stop) (new : Text)
    → f' ≡ f → (env f).read i ≡ Ok (shape t) → t' ≡ t → ps ≡ before ++ p ∷ []
    → ((x : PointerType) → t ≡ types.Pointer x → ⊥)
    → ((x : ModifierType) → t ≡ types.Modifier x → ⊥)
    → Prints r new (pointed_text ps (shape t') (env f') (visiting (env f') path) path w)
    → Prints r new (inside_text (PointedTo before p) i (env f) (visiting (env f) path) path w)
other_pointee {F} env f f' before p path i w t t' ps r new same read is all h h' printed =
    let q = subst (λ (x : Printed). Prints r new x)
    (sym (no_pointee (env f) (visiting (env f) path) before p path t w h h'))
    (pointed_same env f f' path w t t' ps (before ++ p ∷ []) r new same is all printed) in
    rw read q

-- what pointers point to through a Modifier, once an index was read: no pointer
pub other_modified_pointee : {F : Type 0} (env : F → Env) (f f' : F) (before : List PointerLevel)
    (p : PointerLevel) (path : Path) (i : ℕ) (w : Text) (t t' : TypeData) (ps : List PointerLevel)
    {A : Type 0} (r : Result A Stop) (new : Text)
    → f' ≡ f → (env f).read i ≡ Ok (shape t) → t' ≡ t → ps ≡ before ++ p ∷ []
    → ((x : PointerType) → t ≡ types.Pointer x → ⊥)
    → Prints r new (pointed_text ps (shape t') (env f') (visiting (env f') path) path w)
    → Prints r new (inside_text (PointedModified before p) i (env f) (visiting (env f) path) path w)
other_modified_pointee {F} env f f' before p path i w t t' ps r new same read is all h printed =
    let q = subst (λ (x : Printed). Prints r new x)
    (sym (no_pointer (env f) (visiting (env f) path) before p path t w h))
    (pointed_same env f f' path w t t' ps (before ++ p ∷ []) r new same is all printed) in
    rw read q

-- under a Modifier, once an index was read: neither a pointer nor a type without a record
pub other_modified : {F : Type 0} (env : F → Env) (f f' : F) (constant : Bool) (path : Path) (i : ℕ)
    (w : Text) (t t' : TypeData) {A : Type 0} (r : Result A Stop) (new : Text)
    → f' ≡ f → (env f).read i ≡ Ok (shape t) → t' ≡ t
    → ((x : PrimitiveType) → t ≡ types.Primitive x → ⊥)
    → ((x : PointerType) → t ≡ types.Pointer x → ⊥)
    → Prints r new (modified_text constant (shape t') (env f') (visiting (env f') path) path w)
    → Prints r new (inside_text (Modified constant) i (env f) (visiting (env f) path) path w)
other_modified {F} env f f' constant path i w t t' r new same read is h h' printed =
    let q1 =
    subst
    (λ (x : F). Prints r new
    (modified_text constant (shape t') (env x) (visiting (env x) path) path w)) same printed in
    let q3 =
    subst (λ (x : TypeData). Prints r new
    (modified_text constant (shape x) (env f) (visiting (env f) path) path w)) is q1 in
    let q4 = subst (λ (x : Printed). Prints r new x)
    (sym (no_modified (env f) (visiting (env f) path) constant path t w h h')) q3 in
    rw read q4
