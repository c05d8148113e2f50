-- An argument that is named several times in a row is printed as it is once.
use Rattle.std.proofs.Common.{◌≡◌, ℕ, zero, suc, ◌+◌, Bool, true, false, cond, List, [], ◌∷◌, ◌++◌, replicate, drop, Result}
use Rattle.std.proofs.Common.{refl, sym, ap, subst, ◌∙◌, append_assoc, arith}
use Rattle.std.proofs.lemmas.Bool.{eqb-true}
use Rattle.std.proofs.lemmas.List.{append-nil}
use Rattle.std.specs.List.{prefix_len}
use Rattle.std.specs.Prelude.{codes, ◌==◌}
use Rattle.pdb_container.specs.Bits.{has_bit}
use Rattle.pdb_container.specs.declared.index.TypeIndex.{TypeIndex}
use Rattle.pdb_container.specs.declared.error.Error.TheVariants as causes
use Rattle.pdb_resolving.specs.declared.error.Error.TheVariants as errors
use Rattle.pdb_resolving.specs.declared.stop.Stop.{Stop}
use Rattle.pdb_resolving.specs.declared.stop.Stop.TheVariants as stops
use Rattle.pdb_type_printing.specs.Arguments.{comma, copies}
use Rattle.pdb_type_printing.specs.Env.{Env}
use Rattle.pdb_type_printing.specs.Paths.{Path}
use Rattle.pdb_type_printing.specs.Pointers.{ends_in_sigil}
use Rattle.pdb_type_printing.specs.Printed.{Text, Printed, Done, Stopped, ◌>>=◌, say}
use Rattle.pdb_type_printing.specs.Printed.{Stops, Prints}
use Rattle.pdb_type_printing.specs.Types.{Visit, Whole, visit, visiting, arguments}
use Rattle.pdb_type_printing.specs.Types.{more_arguments}
use Rattle.pdb_type_printing.proofs.Others.{stops_on}
use Rattle.pdb_type_printing.proofs.Uniform.{after, IsUniform, end_of}
use Rattle.pdb_type_printing.proofs.UniformTypes.{visit_is_uniform}

after_nothing : (p : Printed) → after [] p ≡ p
after_nothing (Done s) = refl
after_nothing (Stopped cause s) = refl

-- what is added to a text that doesn't end in a sign is what is printed from no text on
printed_after : (print : Text → Printed) (w : Text) → IsUniform print
    → ends_in_sigil w ≡ false → print w ≡ after w (print [])
printed_after print w u plain = let a = u.alike [] w (sym plain) in
    a.second ∙ ap (after w) (sym (a.first ∙ after_nothing a.added))

stops_after : (s : Stop) (w piece : Text) (p : Printed) → Stops s piece p
    → Stops s (w ++ piece) (after w p)
stops_after (stops.ByError errors.OutOfMemory) w piece p h = tt
stops_after (stops.ByError (errors.PdbError causes.OutOfMemory)) w piece p h = h
stops_after (stops.ByError (errors.FormatError cause)) w piece p h = h
stops_after (stops.ByError e) w piece p h = ap (after w) h
stops_after (stops.ByTable table e) w piece p h = (h.0, ap (after w) h.1)

comma_is : (w : Text) (spaced : Bool)
    → ends_in_sigil (w ++ cond spaced (codes ", ") (codes ",")) ≡ false
comma_is w true = end_of w 44 (32 ∷ [])
comma_is w false = end_of w 44 []

-- after a comma no sign stands
pub comma_ends_plain : (w : Text) (flags : ℕ) → ends_in_sigil (w ++ comma flags) ≡ false
comma_ends_plain w flags = comma_is w (has_bit flags 4)

-- arguments that are all one are copies of it
more_copies : (env : Env) (visit : Visit) (path : Path) (t : TypeIndex) (piece : Text) (n : ℕ)
    (w : Text) → ((w' : Text) → ends_in_sigil w' ≡ false
    → visit Whole path t.0 w' ≡ Done (w' ++ piece))
    → more_arguments (replicate n t) env visit path w
    ≡ Done (w ++ copies env.flags piece n)
more_copies env visit path t piece zero w h = rw append-nil
more_copies env visit path t piece (suc n) w h =
    ap (λ (x : Printed). x >>= more_arguments (replicate n t) env visit path)
    (h (w ++ comma env.flags) (comma_ends_plain w env.flags))
    ∙ more_copies env visit path t piece n ((w ++ comma env.flags) ++ piece) h
    ∙ ap Done (simp append_assoc)

-- what follows one step and then another
then_then : (p : Printed) (all first second : Text → Printed)
    → ((v : Text) → all v ≡ (first v >>= second)) → (p >>= all) ≡ ((p >>= first) >>= second)
then_then (Done v) all first second h = h v
then_then (Stopped cause v) all first second h = refl

-- arguments follow one another
more_then : (env : Env) (visit : Visit) (path : Path) (ts us : List TypeIndex) (w : Text)
    → more_arguments (ts ++ us) env visit path w
    ≡ (more_arguments ts env visit path w >>= more_arguments us env visit path)
more_then env visit path [] us w = refl
more_then env visit path (t ∷ ts) us w =
    then_then (visit Whole path t.0 (w ++ comma env.flags)) _ _ _
    (λ v. more_then env visit path ts us v)

-- ---- what is printed of an argument and those that repeat it

then_none : (env : Env) (visit : Visit) (path : Path) (p : Printed)
    → (p >>= more_arguments [] env visit path) ≡ p
then_none env visit path (Done w) = refl
then_none env visit path (Stopped cause w) = refl

-- an argument that isn't repeated
pub alone : (env : Env) (visit : Visit) (path : Path) (t : TypeIndex) (n : ℕ) (w : Text)
    {A : Type 0} (r : Result A Stop) (new : Text) → n ≡ 0 → Prints r new (visit Whole path t.0 w)
    → Prints r new (arguments (t ∷ replicate n t) env visit path w)
alone env visit path t n w r new is h =
    rw (is, then_none env visit path (visit Whole path t.0 w)) h

-- an argument whose text, from no text on, was stopped
pub stops_in_copy : (env : Env) (left : ℕ) (path : Path) (t : TypeIndex) (ts : List TypeIndex)
    (start w w' piece shown : Text) (s : Stop) → ends_in_sigil w ≡ false → start ≡ []
    → shown ≡ piece → say shown w ≡ Done w'
    → Stops s piece (visit env left Whole path t.0 start)
    → Stops s w' (arguments (t ∷ ts) env (visit env left) path w)
stops_in_copy env left path t ts start w w' piece shown s plain empty is added h =
    let e : w ++ piece ≡ w' = cc in
    let h1 = subst (λ (x : Text). Stops s piece (visit env left Whole path t.0 x)) empty h in
    let h2 = stops_after s w piece (visit env left Whole path t.0 []) h1 in
    let same = printed_after (visit env left Whole path t.0) w
    (visit_is_uniform env left Whole path t.0) plain in
    let h3 = subst (λ (x : Printed). Stops s (w ++ piece) x) (sym same) h2 in
    subst (λ (x : Text). Stops s x (arguments (t ∷ ts) env (visit env left) path w)) e
    (stops_on s (w ++ piece) (visit env left Whole path t.0 w)
    (more_arguments ts env (visit env left) path) h3)

-- an argument that is copied
pub copied : (env : Env) (left : ℕ) (path : Path) (t : TypeIndex) (n flags : ℕ)
    (start w w' piece shown shown' : Text) {A : Type 0} (r : Result A Stop) (new : Text)
    → ends_in_sigil w ≡ false → start ≡ [] → shown ≡ piece → shown' ≡ piece → flags ≡ env.flags
    → visit env left Whole path t.0 start ≡ Done piece → say shown w ≡ Done w'
    → Prints r new (say (copies flags shown' n) w')
    → Prints r new (arguments (t ∷ replicate n t) env (visit env left) path w)
copied env left path t n flags start w w' piece shown shown' r new plain empty is is' known once
    added h =
    let once' = ap (visit env left Whole path t.0) (sym empty) ∙ once in
    let added' = ap (λ (x : Text). say x w) (sym is) ∙ added in
    let each = λ (v : Text) (no_sign : ends_in_sigil v ≡ false).
    printed_after (visit env left Whole path t.0) v (visit_is_uniform env left Whole path t.0)
    no_sign ∙ ap (after v) once' in
    let all : say (copies flags shown' n) w'
    ≡ arguments (t ∷ replicate n t) env (visit env left) path w =
    ap (λ (x : ℕ). say (copies x shown' n) w') known
    ∙ ap (λ (x : Text). say (copies env.flags x n) w') is'
    ∙ sym (ap (λ (x : Printed). x >>= more_arguments (replicate n t) env (visit env left) path)
    (each w plain ∙ added') ∙ more_copies env (visit env left) path t piece n w' each) in
    subst (λ (x : Printed). Prints r new x) all h

-- an argument and those that repeat it, and then the others
first_then : (env : Env) (visit : Visit) (path : Path) (t : TypeIndex) (n : ℕ)
    (ts us : List TypeIndex) (w : Text) → ts ≡ replicate n t ++ us
    → arguments (t ∷ ts) env visit path w
    ≡ (arguments (t ∷ replicate n t) env visit path w >>= more_arguments us env visit path)
first_then env visit path t n ts us w is =
    ap (λ (x : List TypeIndex). arguments (t ∷ x) env visit path w) is
    ∙ then_then (visit Whole path t.0 w) _ _ _ (λ v. more_then env visit path (replicate n t) us v)

-- what stops a first argument or one that repeats it stops them all
pub first_stops : (env : Env) (visit : Visit) (path : Path) (t : TypeIndex) (n : ℕ)
    (ts us : List TypeIndex) (w new : Text) (s : Stop) → ts ≡ replicate n t ++ us
    → Stops s new (arguments (t ∷ replicate n t) env visit path w)
    → Stops s new (arguments (t ∷ ts) env visit path w)
first_stops env visit path t n ts us w new s is h =
    subst (λ (x : Printed). Stops s new x) (sym (first_then env visit path t n ts us w is))
    (stops_on s new _ (more_arguments us env visit path) h)

-- after a first argument and those that repeat it
pub first_goes_on : {F : Type 0} (env : F → Env) (f f' : F) (path path' : Path) (t : TypeIndex)
    (n : ℕ) (ts us : List TypeIndex) (w w' : Text) {A : Type 0} (r : Result A Stop) (new : Text)
    → f' ≡ f → path' ≡ path → ts ≡ replicate n t ++ us
    → arguments (t ∷ replicate n t) (env f) (visiting (env f) path) path w ≡ Done w'
    → Prints r new (more_arguments us (env f') (visiting (env f') path') path' w')
    → Prints r new (arguments (t ∷ ts) (env f) (visiting (env f) path) path w)
first_goes_on {F} env f f' path path' t n ts us w w' r new same on is printed h =
    let h1 = subst (λ (x : F). Prints r new
    (more_arguments us (env x) (visiting (env x) path') path' w')) same h in
    let h2 = subst (λ (x : Path). Prints r new
    (more_arguments us (env f) (visiting (env f) x) x w')) on h1 in
    subst (λ (x : Printed). Prints r new x)
    (sym (first_then (env f) (visiting (env f) path) path t n ts us w is
    ∙ ap (λ (x : Printed). x >>= more_arguments us (env f) (visiting (env f) path) path) printed))
    h2

-- ---- further arguments, and what all of them are printed as

-- what a further argument and those that repeat it are printed as
further : {F : Type 0} (env : F → Env) (f f' : F) (path path' : Path) (flags : ℕ) (t : TypeIndex)
    (n : ℕ) (ts us : List TypeIndex) (w w' : Text) (total : Printed)
    → f' ≡ f → path' ≡ path → flags ≡ (env f').flags → ts ≡ t ∷ (replicate n t ++ us)
    → say (comma flags) w ≡ Done w'
    → more_arguments ts (env f) (visiting (env f) path) path w ≡ total
    → (arguments (t ∷ replicate n t) (env f') (visiting (env f') path') path' w'
    >>= more_arguments us (env f) (visiting (env f) path) path) ≡ total
further {F} env f f' path path' flags t n ts us w w' total same on known is said so_far =
    ap (λ (x : F). arguments (t ∷ replicate n t) (env x) (visiting (env x) path') path' w'
    >>= more_arguments us (env f) (visiting (env f) path) path) same
    ∙ ap (λ (x : Path). arguments (t ∷ replicate n t) (env f) (visiting (env f) x) x w'
    >>= more_arguments us (env f) (visiting (env f) path) path) on
    ∙ sym (first_then (env f) (visiting (env f) path) path t n (replicate n t ++ us) us w' refl)
    ∙ ap (λ (x : Printed). x
    >>= arguments (t ∷ (replicate n t ++ us)) (env f) (visiting (env f) path) path)
    (sym said ∙ ap (λ (x : ℕ). say (comma x) w) (known ∙ ap (λ (x : F). (env x).flags) same))
    ∙ ap (λ (x : List TypeIndex). more_arguments x (env f) (visiting (env f) path) path w)
    (sym is) ∙ so_far

-- after a further argument and those that repeat it
pub run_goes_on : {F : Type 0} (env : F → Env) (f f' : F) (path path' : Path) (flags : ℕ)
    (t : TypeIndex) (n : ℕ) (ts us : List TypeIndex) (w w' w'' : Text) (total : Printed)
    → f' ≡ f → path' ≡ path → flags ≡ (env f').flags → ts ≡ t ∷ (replicate n t ++ us)
    → say (comma flags) w ≡ Done w'
    → arguments (t ∷ replicate n t) (env f') (visiting (env f') path') path' w' ≡ Done w''
    → more_arguments ts (env f) (visiting (env f) path) path w ≡ total
    → more_arguments us (env f) (visiting (env f) path) path w'' ≡ total
run_goes_on env f f' path path' flags t n ts us w w' w'' total same on known is said h so_far =
    ap (λ (x : Printed). x >>= more_arguments us (env f) (visiting (env f) path) path) (sym h)
    ∙ further env f f' path path' flags t n ts us w w' total same on known is said so_far

-- what stops a further argument or one that repeats it stops them all
pub run_stops : {F : Type 0} (env : F → Env) (f f' : F) (path path' : Path) (flags : ℕ)
    (t : TypeIndex) (n : ℕ) (ts us : List TypeIndex) (w w' new : Text) (s : Stop)
    (total : Printed)
    → f' ≡ f → path' ≡ path → flags ≡ (env f').flags → ts ≡ t ∷ (replicate n t ++ us)
    → say (comma flags) w ≡ Done w'
    → Stops s new (arguments (t ∷ replicate n t) (env f') (visiting (env f') path') path' w')
    → more_arguments ts (env f) (visiting (env f) path) path w ≡ total → Stops s new total
run_stops env f f' path path' flags t n ts us w w' new s total same on known is said h so_far =
    subst (λ (x : Printed). Stops s new x)
    (further env f f' path path' flags t n ts us w w' total same on known is said so_far)
    (stops_on s new _ (more_arguments us (env f) (visiting (env f) path) path) h)
