-- What a call that was ended says of what is printed.
use Rattle.std.proofs.Common.{◌≡◌, ℕ, Result, Ok, Err, refl, sym, ap, subst}
use Rattle.pdb_container.specs.declared.error.Error.TheVariants as causes
use Rattle.pdb_resolving.specs.declared.error.Error.{Error}
use Rattle.pdb_resolving.specs.declared.error.Error.TheVariants as errors
use Rattle.pdb_resolving.specs.declared.stop.Stop.{Stop}
use Rattle.pdb_resolving.specs.declared.stop.Stop.TheVariants as stops
use Rattle.pdb_resolving.specs.Cause.{Cause, ByFault, Ends}
use Rattle.pdb_resolving.specs.Fault.{Fault, CircularTypeDefinition, Fails}
use Rattle.pdb_type_printing.specs.Printed.{Text, Printed, Stopped, Stops, Prints, read_or, caught}

-- what could not be read stops the printing, where nothing is printed in its place
pub fails_stops : {A : Type 0} (s : Stop) (read : Result A Cause) (w : Text) (more : A → Printed)
    → Ends s read → Stops s w (read_or (λ e. Stopped e w) read more)
fails_stops (stops.ByError errors.OutOfMemory) read w more h = tt
fails_stops (stops.ByError (errors.PdbError causes.OutOfMemory)) read w more h = h
fails_stops (stops.ByError (errors.FormatError cause)) read w more h = h
fails_stops (stops.ByError e) read w more h = ap (λ r. read_or (λ e. Stopped e w) r more) h
fails_stops (stops.ByTable table e) read w more h =
    (h.0, ap (λ r. read_or (λ e. Stopped e w) r more) h.1)

-- an index that may not go on the path stops the printing
pub circular_stops : (e : Error) (i : ℕ) (w : Text) (p : Printed)
    → e ≡ errors.CircularTypeDefinition i → p ≡ Stopped (ByFault (CircularTypeDefinition i)) w
    → Stops (stops.ByError e) w p
circular_stops e i w p is printed = subst (λ (x : Error). Stops (stops.ByError x) w p)
    (sym is) printed

ok_is_not_err : {A : Type 0} {x : A} {e : Fault} → Ok x ≡ Err e → ⊥
ok_is_not_err {A} {x} {e} h = cc

-- a reading that can't fail fails only when memory runs out
pub sure_stops : {A : Type 0} (e : Error) (x : A) (w : Text) (p : Printed) → Fails e (Ok x)
    → Stops (stops.ByError e) w p
sure_stops errors.OutOfMemory x w p h = tt
sure_stops (errors.PdbError causes.OutOfMemory) x w p h = h
sure_stops (errors.FormatError cause) x w p h = h
sure_stops e x w p h = absurd (ok_is_not_err h)

-- what isn't for a missing type goes through where missing types end
pub uncaught : {A : Type 0} (r : Result A Stop) (w : Text) (p : Printed)
    → ((i : ℕ) → r ≡ Err (stops.ByError (errors.PdbError (causes.TypeNotFound i))) → ⊥)
    → Prints r w p → Prints r w (caught p)
uncaught (Ok x) w p other h = ap caught h
uncaught (Err (stops.ByError errors.OutOfMemory)) w p other h = tt
uncaught (Err (stops.ByError (errors.PdbError causes.OutOfMemory))) w p other h = h
uncaught (Err (stops.ByError (errors.FormatError cause))) w p other h = h
uncaught (Err (stops.ByError (errors.PdbError (causes.TypeNotFound i)))) w p other h =
    absurd (other i refl)
uncaught (Err (stops.ByError e)) w p other h = ap caught h
uncaught (Err (stops.ByTable table e)) w p other h = (h.0, ap caught h.1)
