-- The statements of the laws on parts that stand as failed.
use Rattle.std.specs.Prelude.{◌≡◌, true, Some, Err}
use Rattle.pdb_frames.specs.FailingParts.{Failures, failed_after, fault_told, has_failed}
use Rattle.pdb_frames.specs.FailingParts.{unsuccessful}
use Rattle.pdb_resolving.specs.Fault.{Fault}
use Rattle.pdb_resolving.specs.declared.error.Error.{Error}
use Rattle.pdb_resolving.specs.declared.failures.Part.{Part}

-- a part stands as failed after a question that answers with an A failed in it
abbrev pub LeavesFailed : Type 0 → Part → Error → Failures → Type 0
LeavesFailed A part e f = has_failed (failed_after {A = A} (Some part) (Err e) f) part ≡ true

-- a fault in the part is then reported as the fault of a part that stands as failed
abbrev pub IsTold : Type 0 → Part → Error → Failures → Fault → Type 0
IsTold A part e f fault =
    fault_told (failed_after {A = A} (Some part) (Err e) f) (Some part) fault ≡ unsuccessful part

-- the parts that stood as failed still do
abbrev pub Stand : Failures → Failures → Type 0
Stand old new = (part : Part) → has_failed old part ≡ true → has_failed new part ≡ true
