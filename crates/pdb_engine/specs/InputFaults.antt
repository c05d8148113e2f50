-- The faults of answering an input.
use Rattle.std.specs.Prelude.{◌≡◌, ◌≢◌, ◌⊎◌}
use Rattle.std.specs.declared.io.ErrorKind.{ErrorKind}
use Rattle.std.specs.declared.io.ErrorKind.TheVariants as kinds
use Rattle.pdb_engine.specs.declared.fault.InputFault.{InputFault}
use Rattle.pdb_engine.specs.declared.fault.InputFault.TheVariants.{Read, Write, InputTooLong}
use Rattle.pdb_engine.specs.declared.fault.InputFault.TheVariants.{OutOfMemory}
use Rattle.pdb_engine.specs.declared.watched.Watched.{Watched}
use Rattle.pdb_engine.specs.Watched.{CountsFailure, IsQuiet}

-- the fault with which answering ends at a failed read
abbrev pub read_fault_of : ErrorKind → InputFault
read_fault_of kinds.OutOfMemory = OutOfMemory
read_fault_of kind = Read kind

-- the fault with which answering ends at a failed write
abbrev pub write_fault_of : ErrorKind → InputFault
write_fault_of kinds.OutOfMemory = OutOfMemory
write_fault_of kind = Write kind

-- where the fault is a failed read, this is said of its kind
abbrev pub OnRead : InputFault → (ErrorKind → Type 0) → Type 0
OnRead (Read kind) P = P kind
OnRead (Write kind) P = Unit {0}
OnRead InputTooLong P = Unit {0}
OnRead OutOfMemory P = Unit {0}

-- where the fault is a failed write, this is said of its kind
abbrev pub OnWrite : InputFault → (ErrorKind → Type 0) → Type 0
OnWrite (Write kind) P = P kind
OnWrite (Read kind) P = Unit {0}
OnWrite InputTooLong P = Unit {0}
OnWrite OutOfMemory P = Unit {0}

-- where the fault is that the input is too long, this is said
abbrev pub OnTooLong : InputFault → Type 0 → Type 0
OnTooLong InputTooLong P = P
OnTooLong (Read kind) P = Unit {0}
OnTooLong (Write kind) P = Unit {0}
OnTooLong OutOfMemory P = Unit {0}

-- a fault that writing an answer may have; out of memory has one name
abbrev pub IsOfWriting : InputFault → Type 0
IsOfWriting (Write kind) = kind ≢ kinds.OutOfMemory
IsOfWriting OutOfMemory = Unit {0}
IsOfWriting (Read kind) = ⊥
IsOfWriting InputTooLong = ⊥

-- a fault that answering an input may have
abbrev pub IsOfRunning : InputFault → Type 0
IsOfRunning (Read kind) = kind ≢ kinds.OutOfMemory
IsOfRunning (Write kind) = kind ≢ kinds.OutOfMemory
IsOfRunning InputTooLong = Unit {0}
IsOfRunning OutOfMemory = Unit {0}

-- a read failed, and the fault is that read's
abbrev pub EndsAtRead : {R : Type 0} → InputFault → Watched R → Watched R → Type 0
EndsAtRead fault old new =
    (kind : ErrorKind) × (fault ≡ read_fault_of kind) × CountsFailure old new kind

-- a write failed, and the fault is that write's
abbrev pub EndsAtWrite : {W : Type 0} → InputFault → Watched W → Watched W → Type 0
EndsAtWrite fault old new =
    (kind : ErrorKind) × (fault ≡ write_fault_of kind) × CountsFailure old new kind

-- writing answers ends where a write fails, or memory runs out and no write fails
abbrev pub EndsWriting : {W : Type 0} → InputFault → Watched W → Watched W → Type 0
EndsWriting fault old new =
    EndsAtWrite fault old new ⊎ ((fault ≡ OutOfMemory) × IsQuiet old new)

-- answering an input ends where a read fails, where writing ends, or where the input is too long;
-- no other call fails
abbrev pub EndsRunning : {R W : Type 0} → InputFault → Watched R → Watched R
    → Watched W → Watched W → Type 0
EndsRunning fault reader reader' writer writer' =
    (EndsAtRead fault reader reader' × IsQuiet writer writer')
    ⊎ ((IsQuiet reader reader' × EndsWriting fault writer writer')
    ⊎ ((fault ≡ InputTooLong) × IsQuiet reader reader' × IsQuiet writer writer'))
