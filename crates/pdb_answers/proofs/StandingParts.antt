-- What stands as failed after a question.
use Rattle.std.proofs.Common.{◌≡◌, ◌≢◌, true, cond, Result, Ok, Err, refl, ap, ◌∙◌}
use Rattle.std.specs.Prelude.{Option, None, Some, Bool}
use Rattle.pdb_resolving.specs.declared.failures.Part.{Part}
use Rattle.pdb_resolving.proofs.KeptParts.{kept_part_stands, part_still_stands}
use Rattle.pdb_resolving.specs.declared.error.Error.{Error}
use Rattle.pdb_resolving.specs.declared.error.Error.TheVariants as errors
use Rattle.pdb_resolving.specs.Fault.{Fault}
use Rattle.pdb_frames.specs.FailingParts.{Failures, failed_after, has_failed, fault_told, unsuccessful, with_failing}

after_fault : (A : Type 0) (part : Option Part) (e : Error) (f : Failures) → e ≢ errors.OutOfMemory → failed_after {A = A} part (Err e) f ≡ with_failing f part
after_fault A part errors.OutOfMemory f h = absurd (h refl)
after_fault A part e f h = refl

pub kept_after : (A : Type 0) (part : Part) (e : Error) (f : Failures) → e ≢ errors.OutOfMemory → has_failed (failed_after {A = A} (Some part) (Err e) f) part ≡ true
kept_after A part e f h = ap (λ (g : Failures). has_failed g part) (after_fault A (Some part) e f h) ∙ kept_part_stands f part

pub told_after : (A : Type 0) (part : Part) (e : Error) (f : Failures) (fault : Fault) → e ≢ errors.OutOfMemory → fault_told (failed_after {A = A} (Some part) (Err e) f) (Some part) fault ≡ unsuccessful part
told_after A part e f fault h = ap (λ (stood : Bool). cond stood (unsuccessful part) fault) (kept_after A part e f h)

with_stays : (part : Option Part) (f : Failures) (other : Part) → has_failed f other ≡ true → has_failed (with_failing f part) other ≡ true
with_stays None f other h = h
with_stays (Some part) f other h = part_still_stands f part other h

pub stay_after : {A : Type 0} (part : Option Part) (result : Result A Error) (f : Failures) (other : Part) → has_failed f other ≡ true → has_failed (failed_after part result f) other ≡ true
stay_after part (Ok x) f other h = h
stay_after part (Err errors.OutOfMemory) f other h = h
stay_after part (Err e) f other h = with_stays part f other h
