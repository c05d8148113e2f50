-- What is reported of a part that fails.
use Rattle.std.proofs.Common.{◌≡◌, Result, Ok, Err, false, refl, ap, sym, subst}
use Rattle.std.specs.Prelude.{None, Some, if◌then◌else◌}
use Rattle.pdb_resolving.specs.declared.error.Error.{Error}
use Rattle.pdb_resolving.specs.Fault.{Fault, Fails}
use Rattle.pdb_frames.specs.FailingParts.{Failures, has_failed, told, unsuccessful}
use Rattle.pdb_frames.specs.Failing.{Part}

-- without a part that fails, an answer is reported as it is
told_as_it_is : {A : Type 0} (f : Failures) (r : Result A Fault) → told f None r ≡ r
told_as_it_is f (Ok x) = refl
told_as_it_is f (Err e) = refl

pub told_alone : {A : Type 0} (e : Error) (f : Failures) (r : Result A Fault) → Fails e r → Fails e (told f None r)
told_alone e f r h = subst (λ x. Fails e x) (sym (told_as_it_is f r)) h

-- and so is one whose part did not stand as failed
told_first : {A : Type 0} (f : Failures) (part : Part) (r : Result A Fault) → has_failed f part ≡ false → told f (Some part) r ≡ r
told_first f part (Ok x) fresh = refl
told_first f part (Err e) fresh = ap (λ b. Err (if b then unsuccessful part else e)) fresh

pub told_own : {A : Type 0} (e : Error) (f : Failures) (part : Part) (r : Result A Fault) → has_failed f part ≡ false → Fails e r → Fails e (told f (Some part) r)
told_own e f part r fresh h = subst (λ x. Fails e x) (sym (told_first f part r fresh)) h
