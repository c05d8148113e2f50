-- Steps of a printing: what follows what was printed, and what a step that failed says of the
-- whole.
use Rattle.std.proofs.Common.{◌≡◌, Result, Ok, Err, sym, subst}
use Rattle.std.specs.Result.{IsErrAnd}
use Rattle.pdb_container.specs.declared.error.Error.TheVariants as causes
use Rattle.pdb_resolving.specs.declared.error.Error.TheVariants as errors
use Rattle.pdb_resolving.specs.declared.stop.Stop.{Stop}
use Rattle.pdb_resolving.specs.declared.stop.Stop.TheVariants as stops
use Rattle.pdb_resolving.specs.Cause.{Cause, Ends, Finds}
use Rattle.pdb_type_printing.specs.Printed.{Text, Printed, Done, Stopped, ◌>>=◌, Stops, Prints}

-- a call that passes on what ended a step
pub failed : {A : Type 0} (s : Stop) (r : Result A Stop) (new : Text) (p : Printed)
    → IsErrAnd r (λ y. y ≡ s) → Stops s new p → Prints r new p
failed s (Ok x) new p is h = absurd is
failed s (Err y) new p is h = subst (λ (x : Stop). Stops x new p) (sym is) h

-- after what was printed
pub goes_on : {A : Type 0} (r : Result A Stop) (new w : Text) (p : Printed) (more : Text → Printed)
    → p ≡ Done w → Prints r new (more w) → Prints r new (p >>= more)
goes_on r new w p more is h = subst (λ (x : Printed). Prints r new (x >>= more)) (sym is) h

-- what stops a later step stops the whole
pub stops_later : (s : Stop) (new w : Text) (p : Printed) (more : Text → Printed) → p ≡ Done w
    → Stops s new (more w) → Stops s new (p >>= more)
stops_later s new w p more is h = subst (λ (x : Printed). Stops s new (x >>= more)) (sym is) h

done_is_not_stopped : {w w' : Text} {cause : Cause} → Done w ≡ Stopped cause w' → ⊥
done_is_not_stopped {w} {w'} {cause} h = cc

-- a step that can't fail fails only when memory runs out
pub sure_step : (s : Stop) (new w : Text) (p : Printed) → Stops s new (Done w) → Stops s new p
sure_step (stops.ByError errors.OutOfMemory) new w p h = tt
sure_step (stops.ByError (errors.PdbError causes.OutOfMemory)) new w p h = h
sure_step (stops.ByError (errors.FormatError cause)) new w p h = h
sure_step (stops.ByError e) new w p h = absurd (done_is_not_stopped h)
sure_step (stops.ByTable table e) new w p h = absurd (done_is_not_stopped h.1)

-- a call that passes on what ended a reading
pub failed_answer : {X Y : Type 0} (view : X → Y) (s : Stop) (r : Result X Stop)
    (read : Result Y Cause) → IsErrAnd r (λ y. y ≡ s) → Ends s read → Finds view r read
failed_answer view s (Ok x) read is h = absurd is
failed_answer view s (Err y) read is h = subst (λ (x : Stop). Ends x read) (sym is) h
