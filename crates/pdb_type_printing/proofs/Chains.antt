-- One step down a chain of arrays.
use Rattle.std.proofs.Common.{◌≡◌, ℕ, suc, ◌+◌, ◌-◌, ◌<◌, ◌≤◌, true, false, cond, List, [], ◌∷◌}
use Rattle.std.proofs.Common.{◌++◌, Result, Ok, Err, refl, sym, ap, ◌∙◌, arith}
use Rattle.std.specs.Prelude.{Option, Some, None}
use Rattle.pdb_container.specs.Fault.{◌>>=◌}
use Rattle.pdb_container.specs.declared.index.TypeIndex.{TypeIndex}
use Rattle.pdb_records.specs.Forms.{TypeForm}
use Rattle.pdb_container.specs.declared.error.Error.TheVariants as causes
use Rattle.pdb_resolving.specs.declared.error.Error.TheVariants as errors
use Rattle.pdb_resolving.specs.declared.stop.Stop.{Stop}
use Rattle.pdb_resolving.specs.declared.stop.Stop.TheVariants as stops
use Rattle.pdb_resolving.specs.Cause.{Cause, ByFault, ByTable, Ends}
use Rattle.pdb_resolving.specs.Fault.{CircularTypeDefinition, fault_of}
use Rattle.pdb_type_printing.specs.Paths.{Path, is_on}
use Rattle.pdb_type_printing.specs.Env.{Env}
use Rattle.pdb_type_printing.specs.Arrays.{Elements, array_step, elements_behind, elements_from}

-- a chain of arrays, or its first fault
abbrev pub Chain : Type 0
Chain = Result Elements Cause

-- what follows an element that was read
abbrev pub step : Env → ℕ → Path → List ℕ → ℕ → TypeForm → Chain
step env k passed dimensions i form =
    elements_behind
    (λ d element. elements_from env (1024 - (k + 1)) (passed ++ i ∷ []) (dimensions ++ d ∷ [])
    element) record { dimensions = dimensions; index = i; form = form } (array_step form)

chain_is : (env : Env) (k : ℕ) (passed : Path) (dimensions : List ℕ) (i : ℕ) → k < 1024
    → elements_from env (1024 - k) passed dimensions i
    ≡ cond (is_on passed i) (Err (ByFault (CircularTypeDefinition i)))
    (env.read i >>= step env k passed dimensions i)
unfolding elements_from
chain_is env k passed dimensions i lt = let e : 1024 - k ≡ suc (1024 - (k + 1)) =
    omega arith in rw e refl

-- an element that comes again is circular
pub chain_circular : (env : Env) (k : ℕ) (passed : Path) (dimensions : List ℕ) (i : ℕ)
    (total : Chain) → k < 1024 → is_on passed i ≡ true
    → elements_from env (1024 - k) passed dimensions i ≡ total
    → total ≡ Err (ByFault (CircularTypeDefinition i))
chain_circular env k passed dimensions i total lt on so_far =
    sym so_far ∙ chain_is env k passed dimensions i lt ∙ rw on refl

-- an element that can be read is followed
pub chain_reads : (env : Env) (k : ℕ) (passed : Path) (dimensions : List ℕ) (i : ℕ)
    (form : TypeForm) (total : Chain) → k < 1024 → is_on passed i ≡ false → env.read i ≡ Ok form
    → elements_from env (1024 - k) passed dimensions i ≡ total
    → total ≡ step env k passed dimensions i form
chain_reads env k passed dimensions i form total lt on h so_far =
    sym so_far ∙ chain_is env k passed dimensions i lt ∙ rw (on, h) refl

-- past 1,024 elements the next one is circular
pub chain_ends : (env : Env) (k : ℕ) (passed : Path) (dimensions : List ℕ) (i : ℕ) (total : Chain)
    → 1024 ≤ k → elements_from env (1024 - k) passed dimensions i ≡ total
    → total ≡ Err (ByFault (CircularTypeDefinition i))
unfolding elements_from
chain_ends env k passed dimensions i total le so_far = let e : 1024 - k ≡ 0 = omega arith in
    sym so_far ∙ rw e refl

fails_as : (env : Env) (k : ℕ) (passed : Path) (dimensions : List ℕ) (i : ℕ) (e : Cause)
    (total : Chain) → k < 1024 → is_on passed i ≡ false → env.read i ≡ Err e
    → elements_from env (1024 - k) passed dimensions i ≡ total → total ≡ Err e
fails_as env k passed dimensions i e total lt on h so_far =
    sym so_far ∙ chain_is env k passed dimensions i lt ∙ rw (on, h) refl

-- an element that can't be read is the end of the chain
pub chain_fails : (env : Env) (k : ℕ) (passed : Path) (dimensions : List ℕ) (i : ℕ) (s : Stop)
    (total : Chain) → k < 1024 → is_on passed i ≡ false → Ends s (env.read i)
    → elements_from env (1024 - k) passed dimensions i ≡ total → Ends s total
chain_fails env k passed dimensions i (stops.ByError errors.OutOfMemory) total lt on h so_far = tt
chain_fails env k passed dimensions i (stops.ByError (errors.PdbError causes.OutOfMemory)) total lt
    on h so_far = h
chain_fails env k passed dimensions i (stops.ByError (errors.FormatError cause)) total lt on
    h so_far = h
chain_fails env k passed dimensions i (stops.ByError e) total lt on h so_far =
    fails_as env k passed dimensions i (ByFault (fault_of e)) total lt on h so_far
chain_fails env k passed dimensions i (stops.ByTable table e) total lt on h so_far =
    (h.0, fails_as env k passed dimensions i (ByTable table (fault_of e)) total lt on h.1 so_far)

-- an element that is an array leads further, any other is the innermost one
pub chain_goes_on : (env : Env) (k : ℕ) (passed : Path) (dimensions : List ℕ) (i : ℕ)
    (form : TypeForm) (array : ℕ × TypeIndex) (total : Chain) → k < 1024 → is_on passed i ≡ false
    → env.read i ≡ Ok form → array_step form ≡ Some array
    → elements_from env (1024 - k) passed dimensions i ≡ total
    → elements_from env (1024 - (k + 1)) (passed ++ i ∷ []) (dimensions ++ array.0 ∷ [])
    array.1.0 ≡ total
chain_goes_on env k passed dimensions i form array total lt on h is so_far =
    sym (chain_reads env k passed dimensions i form total lt on h so_far
    ∙ ap (λ (o : Option (ℕ × TypeIndex)). elements_behind
    (λ d element. elements_from env (1024 - (k + 1)) (passed ++ i ∷ []) (dimensions ++ d ∷ [])
    element) record { dimensions = dimensions; index = i; form = form } o) is)

-- an element that is no array is the innermost one
pub chain_stops : (env : Env) (k : ℕ) (passed : Path) (dimensions : List ℕ) (i : ℕ)
    (form : TypeForm) (total : Chain) → k < 1024 → is_on passed i ≡ false → env.read i ≡ Ok form
    → array_step form ≡ None
    → elements_from env (1024 - k) passed dimensions i ≡ total
    → total ≡ Ok record { dimensions = dimensions; index = i; form = form }
chain_stops env k passed dimensions i form total lt on h is so_far =
    chain_reads env k passed dimensions i form total lt on h so_far
    ∙ ap (λ (o : Option (ℕ × TypeIndex)). elements_behind
    (λ d element. elements_from env (1024 - (k + 1)) (passed ++ i ∷ []) (dimensions ++ d ∷ [])
    element) record { dimensions = dimensions; index = i; form = form } o) is
