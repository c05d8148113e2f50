-- The parts of modules that can't be read, and what is reported of those that stand as failed.
use Rattle.std.specs.Prelude.{ℕ, Option, None, Some, Result, Ok, Err, if◌then◌else◌}
use Rattle.pdb_container.specs.Fault as container
use Rattle.pdb_symbols_modules.specs.ModuleStream.{ModuleStream}
use Rattle.pdb_module_data.specs.FunctionLine.{function_rows}
pub use Rattle.pdb_resolving.specs.Failures.{Failures, has_failed, no_failures, number_of}
pub use Rattle.pdb_resolving.specs.Failures.{with_failed}
use Rattle.pdb_resolving.specs.declared.failures.Part.{Part}
use Rattle.pdb_resolving.specs.declared.failures.Part.TheVariants as parts
use Rattle.pdb_resolving.specs.declared.error.Error.{Error}
use Rattle.pdb_resolving.specs.declared.error.Error.TheVariants as errors
use Rattle.pdb_resolving.specs.Fault.{Fault, ExtendedModuleInfoUnsuccessful}
use Rattle.pdb_resolving.specs.Fault.{ProcedureLinesUnsuccessful, ProcedureInlineRangesUnsuccessful}
use Rattle.pdb_frames.specs.Choice.{Chosen, Proc, Public, start_of}
use Rattle.pdb_known_modules.specs.KnownModules.{ModuleData, ExtendedModule, extended_of}
use Rattle.pdb_known_modules.specs.KnownModules.{procedure_sites}

-- ---- what is reported of a part that fails

-- the fault that says that a part stands as failed
abbrev pub unsuccessful : Part → Fault
unsuccessful (parts.ExtendedModule m) = ExtendedModuleInfoUnsuccessful
unsuccessful (parts.ProcedureLines m start) = ProcedureLinesUnsuccessful
unsuccessful (parts.ProcedureInlineRanges m start) = ProcedureInlineRangesUnsuccessful

-- the error that says that a part stands as failed
abbrev pub unsuccessful_error : Part → Error
unsuccessful_error (parts.ExtendedModule m) = errors.ExtendedModuleInfoUnsuccessful
unsuccessful_error (parts.ProcedureLines m start) = errors.ProcedureLinesUnsuccessful
unsuccessful_error (parts.ProcedureInlineRanges m start) = errors.ProcedureInlineRangesUnsuccessful

-- the fault that is reported of a part that fails: the part's own, unless it stands as failed
abbrev pub fault_told : Failures → Option Part → Fault → Fault
fault_told f None e = e
fault_told f (Some part) e = if has_failed f part then unsuccessful part else e

-- an answer, with the fault that is reported of the part in which it fails, if it does
abbrev pub told : {A : Type 0} → Failures → Option Part → Result A Fault → Result A Fault
told f part (Ok x) = Ok x
told f part (Err e) = Err (fault_told f part e)

-- the parts that stand as failed after a part failed
abbrev pub with_failing : Failures → Option Part → Failures
with_failing f None = f
with_failing f (Some part) = with_failed f part

-- the parts that stand as failed after a question, with the one in which it failed, unless memory
-- ran out
abbrev pub failed_after : {A : Type 0} → Option Part → Result A Error → Failures → Failures
failed_after part (Ok x) f = f
failed_after part (Err errors.OutOfMemory) f = f
failed_after part (Err e) f = with_failing f part

-- ---- which part fails

-- a part, if it can't be read, or else the first of others
abbrev pub failing_first : {A E : Type 0} → Result A E → Part → Option Part → Option Part
failing_first (Ok x) part others = others
failing_first (Err e) part others = Some part

-- the sites of a chosen procedure, if they can't be read
abbrev pub failing_sites : ℕ → ModuleStream → Chosen → Option Part
failing_sites m stream (Proc q) =
    failing_first (procedure_sites stream q) (parts.ProcedureInlineRanges m q.offset) None
failing_sites m stream (Public f) = None

-- the first part that can't be read: the rows of a chosen function, or then its sites
abbrev pub failing_procedure : ℕ → ModuleStream → ExtendedModule → Chosen → Option Part
failing_procedure m stream extended c =
    failing_first (function_rows extended.program (start_of c))
    (parts.ProcedureLines m (start_of c)) (failing_sites m stream c)

-- the first part that can't be read: line program with inlinees, the rows of a chosen function, or
-- its sites
abbrev pub failing_by :
    ℕ → ModuleStream → Chosen → Result ExtendedModule container.Fault → Option Part
failing_by m stream c (Ok extended) = failing_procedure m stream extended c
failing_by m stream c (Err e) = Some (parts.ExtendedModule m)

-- the first part that can't be read, of the parts from which the frames in a chosen function are
-- made; none without data
abbrev pub failing_in : ℕ → Option ModuleData → Chosen → Option Part
failing_in m None c = None
failing_in m (Some known) c = failing_by m known.stream c (extended_of known.stream)

-- the first part that can't be read where a function may be chosen; none without one
abbrev pub failing_of_chosen : ℕ → Option ModuleData → Option Chosen → Option Part
failing_of_chosen m known None = None
failing_of_chosen m known (Some c) = failing_in m known c
