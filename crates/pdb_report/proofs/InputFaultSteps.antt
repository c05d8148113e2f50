-- What is said of a fault of answering an input is said of the run's.
use Rattle.std.specs.Prelude.{Result, Ok, Err, IfErr}
use Rattle.std.specs.declared.io.ErrorKind.{ErrorKind}
use Rattle.pdb_engine.specs.declared.fault.InputFault.{InputFault}
use Rattle.pdb_engine.specs.declared.fault.InputFault.TheVariants.{Read, Write, InputTooLong, OutOfMemory}
use Rattle.pdb_loading.specs.declared.load_fault.LoadFault.{LoadFault}
use Rattle.pdb_report.specs.declared.fault.RunFault.{RunFault}
use Rattle.pdb_report.specs.declared.fault.RunFault.TheVariants as runs
use Rattle.pdb_engine.specs.InputFaults as inputs
use Rattle.pdb_report.specs.RunFaults.{OnRead, OnWrite, OnTooLong, OnLoad, OnMemory, OnReversed, OnCounted, UnlessLoad, IsOfFrames, IsOfSizes, run_fault_of_input}

pub on_read : (fault : InputFault) (P : ErrorKind → Type 0) → inputs.OnRead fault P → OnRead (run_fault_of_input fault) P
on_read (Read kind) P h = h
on_read (Write kind) P h = tt
on_read InputTooLong P h = tt
on_read OutOfMemory P h = tt

pub on_write : (fault : InputFault) (P : ErrorKind → Type 0) → inputs.OnWrite fault P → OnWrite (run_fault_of_input fault) P
on_write (Read kind) P h = tt
on_write (Write kind) P h = h
on_write InputTooLong P h = tt
on_write OutOfMemory P h = tt

pub on_too_long : (fault : InputFault) (P : Type 0) → inputs.OnTooLong fault P → OnTooLong (run_fault_of_input fault) P
on_too_long (Read kind) P h = tt
on_too_long (Write kind) P h = tt
on_too_long InputTooLong P h = h
on_too_long OutOfMemory P h = tt

pub of_frames : (fault : InputFault) → inputs.IsOfRunning fault → IsOfFrames (run_fault_of_input fault)
of_frames (Read kind) h = h
of_frames (Write kind) h = h
of_frames InputTooLong h = tt
of_frames OutOfMemory h = tt

pub on_memory : (fault : InputFault) (P : Type 0) → P → OnMemory (run_fault_of_input fault) P
on_memory (Read kind) P h = tt
on_memory (Write kind) P h = tt
on_memory InputTooLong P h = tt
on_memory OutOfMemory P h = h

-- it is no fault of loading
pub on_load : (fault : InputFault) (P : LoadFault → Type 0) → OnLoad (run_fault_of_input fault) P
on_load (Read kind) P = tt
on_load (Write kind) P = tt
on_load InputTooLong P = tt
on_load OutOfMemory P = tt

-- nor is it that a range is reversed
pub on_reversed : (fault : InputFault) (P : Type 0) → OnReversed (run_fault_of_input fault) P
on_reversed (Read kind) P = tt
on_reversed (Write kind) P = tt
on_reversed InputTooLong P = tt
on_reversed OutOfMemory P = tt

pub on_counted : (A : Type 0) (fault : InputFault) (P : Type 0) → P → OnCounted {A = A} (Err (run_fault_of_input fault)) P
on_counted A (Read kind) P h = tt
on_counted A (Write kind) P h = h
on_counted A InputTooLong P h = tt
on_counted A OutOfMemory P h = tt

pub of_sizes : (fault : InputFault) → inputs.IsOfWriting fault → IsOfSizes (run_fault_of_input fault)
of_sizes (Read kind) h = h
of_sizes (Write kind) h = h
of_sizes InputTooLong h = h
of_sizes OutOfMemory h = tt

-- ---- a run over a file that was loaded

-- a run that never ends with a fault of loading
pub never_load : (fault : RunFault) (P : LoadFault → Type 0) → OnLoad fault (λ _. ⊥) → OnLoad fault P
never_load (runs.Load cause) P h = absurd h
never_load runs.ReversedRange P h = tt
never_load (runs.Read kind) P h = tt
never_load (runs.Write kind) P h = tt
never_load runs.InputTooLong P h = tt
never_load (runs.File kind) P h = tt
never_load runs.OutOfMemory P h = tt

-- what holds in any case holds where memory was short
pub if_memory : (fault : RunFault) (P : Type 0) → P → OnMemory fault P
if_memory runs.OutOfMemory P h = h
if_memory (runs.Load cause) P h = tt
if_memory runs.ReversedRange P h = tt
if_memory (runs.Read kind) P h = tt
if_memory (runs.Write kind) P h = tt
if_memory (runs.File kind) P h = tt
if_memory runs.InputTooLong P h = tt

-- what holds in any case holds at each end that is no fault of loading
pub unless_load : {A : Type 0} (r : Result A RunFault) (P : Type 0) → P → UnlessLoad r P
unless_load (Ok done) P h = h
unless_load (Err (runs.Load cause)) P h = tt
unless_load (Err runs.OutOfMemory) P h = tt
unless_load (Err (runs.File kind)) P h = tt
unless_load (Err runs.ReversedRange) P h = h
unless_load (Err (runs.Read kind)) P h = h
unless_load (Err (runs.Write kind)) P h = h
unless_load (Err runs.InputTooLong) P h = h

-- the same of what a run returned
pub all_never_load : {A : Type 0} (r : Result A RunFault) (P : LoadFault → Type 0) → IfErr r (λ fault. OnLoad fault (λ _. ⊥)) → IfErr r (λ fault. OnLoad fault P)
all_never_load (Ok done) P h = tt
all_never_load (Err fault) P h = never_load fault P h

pub all_if_memory : {A : Type 0} (r : Result A RunFault) (P : Type 0) → P → IfErr r (λ fault. OnMemory fault P)
all_if_memory (Ok done) P h = tt
all_if_memory (Err fault) P h = if_memory fault P h
