-- How a run over a file that is read on demand ends.
use Rattle.std.proofs.Common.{List, ℕ, [], Err, refl, sym}
use Rattle.std.proofs.lemmas.List.{append-nil}
use Rattle.std.specs.Io.KnownBytes.{Appends}
use Rattle.std.specs.Prelude.{Option, None, Some, IfSome}
use Rattle.std.specs.declared.io.ErrorKind.{ErrorKind}
use Rattle.pdb_engine.specs.declared.fault.InputFault.{InputFault}
use Rattle.pdb_engine.specs.declared.fault.InputFault.TheVariants.{Read, Write, InputTooLong, OutOfMemory}
use Rattle.pdb_engine.specs.InputFaults as inputs
use Rattle.pdb_engine.specs.Watched.{inner_of, WritesFront}
use Rattle.pdb_engine.specs.declared.watched.Watched.{Watched}
use Rattle.pdb_loading.specs.declared.load_fault.LoadFault.{LoadFault}
use Rattle.pdb_report.specs.FileReports.{IfRefused}
use Rattle.pdb_report.specs.declared.fault.RunFault.{RunFault}
use Rattle.pdb_report.specs.declared.fault.RunFault.TheVariants as runs
use Rattle.pdb_report.specs.RunFaults.{IsOfFileFrames, OnCounted, OnMemory, OnRead, OnReversed, OnTooLong}
use Rattle.pdb_report.specs.RunFaults.{OnWrite, UnlessLoad, run_fault_of_input}

-- as answering the input does
pub of_file_frames : (fault : InputFault) → inputs.IsOfRunning fault → IsOfFileFrames (run_fault_of_input fault)
of_file_frames (Read kind) h = h
of_file_frames (Write kind) h = h
of_file_frames InputTooLong h = tt
of_file_frames OutOfMemory h = tt

-- what holds in any case holds where memory ran out or the file couldn't be read
pub if_refused : (fault : RunFault) (P : Type 0) → P → IfRefused fault P
if_refused runs.OutOfMemory P h = h
if_refused (runs.File kind) P h = h
if_refused (runs.Load cause) P h = tt
if_refused runs.ReversedRange P h = tt
if_refused (runs.Read kind) P h = tt
if_refused (runs.Write kind) P h = tt
if_refused runs.InputTooLong P h = tt

-- and where memory ran out
pub if_memory : (fault : RunFault) (P : Type 0) → P → OnMemory fault P
if_memory runs.OutOfMemory P h = h
if_memory (runs.File kind) P h = tt
if_memory (runs.Load cause) P h = tt
if_memory runs.ReversedRange P h = tt
if_memory (runs.Read kind) P h = tt
if_memory (runs.Write kind) P h = tt
if_memory runs.InputTooLong P h = tt

-- A fault of opening a file: its loading fault, that it couldn't be read, or out of memory. What is
-- said of other faults holds, whatever a run would have returned.
pub record IsOfOpening (fault : RunFault) : Type 1 where
  pub loaded : (P : Type 0) → UnlessLoad {A = ℕ} (Err fault) P
  pub counted : (P : Type 0) → OnCounted {A = ℕ} (Err fault) P
  pub on_reversed : (P : Type 0) → OnReversed fault P
  pub on_read : (P : ErrorKind → Type 0) → OnRead fault P
  pub on_write : (P : ErrorKind → Type 0) → OnWrite fault P
  pub on_too_long : (P : Type 0) → OnTooLong fault P

pub of_loading : (cause : LoadFault) → IsOfOpening (runs.Load cause)
of_loading cause = record { loaded = λ P. tt; counted = λ P. tt; on_reversed = λ P. tt; on_read = λ P. tt; on_write = λ P. tt; on_too_long = λ P. tt }

pub of_file : (kind : ErrorKind) → IsOfOpening (runs.File kind)
of_file kind = record { loaded = λ P. tt; counted = λ P. tt; on_reversed = λ P. tt; on_read = λ P. tt; on_write = λ P. tt; on_too_long = λ P. tt }

pub of_memory : IsOfOpening runs.OutOfMemory
of_memory = record { loaded = λ P. tt; counted = λ P. tt; on_reversed = λ P. tt; on_read = λ P. tt; on_write = λ P. tt; on_too_long = λ P. tt }

-- ---- nothing is out

nothing_appended : (known : Option (List ℕ)) → Appends known known []
nothing_appended None = tt
nothing_appended (Some bytes) = sym (append-nil bytes)

-- where nothing was written, a prefix of every text is out
pub nothing_out : {T : Type 0} (contents : T → Option (List ℕ)) (w : Watched T) (input : Option (List ℕ)) (text : List ℕ → List ℕ) → IfSome input (λ i. WritesFront contents w w (text i))
nothing_out contents w None text = tt
nothing_out contents w (Some i) text = ([], nothing_appended (contents (inner_of w)), (text i, refl))
