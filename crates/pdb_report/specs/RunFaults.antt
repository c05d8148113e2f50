-- The faults of a run.
use Rattle.std.specs.Prelude.{◌≢◌, Result, Ok, Err}
use Rattle.std.specs.declared.io.ErrorKind.{ErrorKind}
use Rattle.std.specs.declared.io.ErrorKind.TheVariants as kinds
use Rattle.pdb_loading.specs.declared.load_fault.LoadFault.{LoadFault}
use Rattle.pdb_loading.specs.declared.load_fault.LoadFault.TheVariants as faults
use Rattle.pdb_loading.specs.declared.on_demand.FileFault.{FileFault}
use Rattle.pdb_loading.specs.declared.on_demand.FileFault.TheVariants as files
use Rattle.pdb_engine.specs.declared.fault.InputFault.{InputFault}
use Rattle.pdb_engine.specs.declared.fault.InputFault.TheVariants as inputs
use Rattle.pdb_report.specs.declared.fault.RunFault.{RunFault}
use Rattle.pdb_report.specs.declared.fault.RunFault.TheVariants.{Load, ReversedRange, Read}
use Rattle.pdb_report.specs.declared.fault.RunFault.TheVariants.{Write, InputTooLong}
use Rattle.pdb_report.specs.declared.fault.RunFault.TheVariants.{File, OutOfMemory}

-- the fault of a run where loading has the fault
abbrev pub run_fault_of : LoadFault → RunFault
run_fault_of faults.OutOfMemory = OutOfMemory
run_fault_of fault = Load fault

-- the fault of a run where a file that is read on demand isn't loaded
abbrev pub run_fault_of_file : FileFault → RunFault
run_fault_of_file (files.Load fault) = run_fault_of fault
run_fault_of_file (files.File kinds.OutOfMemory) = OutOfMemory
run_fault_of_file (files.File kind) = File kind

-- the fault of a run where answering its input has the fault
abbrev pub run_fault_of_input : InputFault → RunFault
run_fault_of_input (inputs.Read kind) = Read kind
run_fault_of_input (inputs.Write kind) = Write kind
run_fault_of_input inputs.InputTooLong = InputTooLong
run_fault_of_input inputs.OutOfMemory = OutOfMemory

-- where the fault is a failed read, this is said of its kind
abbrev pub OnRead : RunFault → (ErrorKind → Type 0) → Type 0
OnRead (Read kind) P = P kind
OnRead (Load fault) P = Unit {0}
OnRead ReversedRange P = Unit {0}
OnRead (Write kind) P = Unit {0}
OnRead InputTooLong P = Unit {0}
OnRead (File kind) P = Unit {0}
OnRead OutOfMemory P = Unit {0}

-- where the fault is a failed write, this is said of its kind
abbrev pub OnWrite : RunFault → (ErrorKind → Type 0) → Type 0
OnWrite (Write kind) P = P kind
OnWrite (Load fault) P = Unit {0}
OnWrite ReversedRange P = Unit {0}
OnWrite (Read kind) P = Unit {0}
OnWrite InputTooLong P = Unit {0}
OnWrite (File kind) P = Unit {0}
OnWrite OutOfMemory P = Unit {0}

-- where the fault is that the input is too long, this is said
abbrev pub OnTooLong : RunFault → Type 0 → Type 0
OnTooLong InputTooLong P = P
OnTooLong (Load fault) P = Unit {0}
OnTooLong ReversedRange P = Unit {0}
OnTooLong (Read kind) P = Unit {0}
OnTooLong (Write kind) P = Unit {0}
OnTooLong (File kind) P = Unit {0}
OnTooLong OutOfMemory P = Unit {0}

-- where the fault is one of loading, this is said of it
abbrev pub OnLoad : RunFault → (LoadFault → Type 0) → Type 0
OnLoad (Load fault) P = P fault
OnLoad ReversedRange P = Unit {0}
OnLoad (Read kind) P = Unit {0}
OnLoad (Write kind) P = Unit {0}
OnLoad InputTooLong P = Unit {0}
OnLoad (File kind) P = Unit {0}
OnLoad OutOfMemory P = Unit {0}

-- this is said of every end of a run that is neither a loading fault nor out of memory
abbrev pub UnlessLoad : {A : Type 0} → Result A RunFault → Type 0 → Type 0
UnlessLoad (Ok done) P = P
UnlessLoad (Err (Load fault)) P = Unit {0}
UnlessLoad (Err (File kind)) P = Unit {0}
UnlessLoad (Err OutOfMemory) P = Unit {0}
UnlessLoad (Err ReversedRange) P = P
UnlessLoad (Err (Read kind)) P = P
UnlessLoad (Err (Write kind)) P = P
UnlessLoad (Err InputTooLong) P = P

-- a fault that a report on lines may have
abbrev pub IsOfFrames : RunFault → Type 0
IsOfFrames ReversedRange = ⊥
IsOfFrames (Load fault) = Unit {0}
IsOfFrames (Read kind) = kind ≢ kinds.OutOfMemory
IsOfFrames (Write kind) = kind ≢ kinds.OutOfMemory
IsOfFrames InputTooLong = Unit {0}
IsOfFrames (File kind) = ⊥
IsOfFrames OutOfMemory = Unit {0}

-- where the fault is that memory ran out, this is said
abbrev pub OnMemory : RunFault → Type 0 → Type 0
OnMemory OutOfMemory P = P
OnMemory (Load fault) P = Unit {0}
OnMemory ReversedRange P = Unit {0}
OnMemory (Read kind) P = Unit {0}
OnMemory (Write kind) P = Unit {0}
OnMemory (File kind) P = Unit {0}
OnMemory InputTooLong P = Unit {0}

-- where the fault is that the range is reversed, this is said
abbrev pub OnReversed : RunFault → Type 0 → Type 0
OnReversed ReversedRange P = P
OnReversed (Load fault) P = Unit {0}
OnReversed (Read kind) P = Unit {0}
OnReversed (Write kind) P = Unit {0}
OnReversed InputTooLong P = Unit {0}
OnReversed (File kind) P = Unit {0}
OnReversed OutOfMemory P = Unit {0}

-- this is said of every end of a run on a range after its checks: all is counted, or a write has
-- failed
abbrev pub OnCounted : {A : Type 0} → Result A RunFault → Type 0 → Type 0
OnCounted (Ok done) P = P
OnCounted (Err (Write kind)) P = P
OnCounted (Err (Load fault)) P = Unit {0}
OnCounted (Err ReversedRange) P = Unit {0}
OnCounted (Err (Read kind)) P = Unit {0}
OnCounted (Err InputTooLong) P = Unit {0}
OnCounted (Err (File kind)) P = Unit {0}
OnCounted (Err OutOfMemory) P = Unit {0}

-- a fault that a report on a range may have
abbrev pub IsOfSizes : RunFault → Type 0
IsOfSizes (Load fault) = Unit {0}
IsOfSizes ReversedRange = Unit {0}
IsOfSizes (Write kind) = kind ≢ kinds.OutOfMemory
IsOfSizes (File kind) = ⊥
IsOfSizes OutOfMemory = Unit {0}
IsOfSizes (Read kind) = ⊥
IsOfSizes InputTooLong = ⊥

-- where the fault is a file that couldn't be read, this is said of its kind
abbrev pub OnFile : RunFault → (ErrorKind → Type 0) → Type 0
OnFile (File kind) P = P kind
OnFile (Load fault) P = Unit {0}
OnFile ReversedRange P = Unit {0}
OnFile (Read kind) P = Unit {0}
OnFile (Write kind) P = Unit {0}
OnFile InputTooLong P = Unit {0}
OnFile OutOfMemory P = Unit {0}

-- a fault that a report on lines may have, of a file that is read on demand
abbrev pub IsOfFileFrames : RunFault → Type 0
IsOfFileFrames (File kind) = kind ≢ kinds.OutOfMemory
IsOfFileFrames fault = IsOfFrames fault

-- a fault that a report on a range may have, of a file that is read on demand
abbrev pub IsOfFileSizes : RunFault → Type 0
IsOfFileSizes (File kind) = kind ≢ kinds.OutOfMemory
IsOfFileSizes fault = IsOfSizes fault

-- memory ran out, or the file couldn't be read
abbrev pub OnMemoryOrFile : RunFault → Type 0
OnMemoryOrFile OutOfMemory = Unit {0}
OnMemoryOrFile (File kind) = kind ≢ kinds.OutOfMemory
OnMemoryOrFile fault = ⊥
