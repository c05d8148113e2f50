-- Stored information that may be missing: modules' own streams, and the string table.
use Rattle.std.specs.Prelude.{◌≡◌, ◌≢◌, ℕ, ◌≤◌, ◌⊎◌, List, Option, None, Some, slice_get}
use Rattle.std.specs.Prelude.{Result, Ok, Err}
use Rattle.std.specs.List.{AllZip}
use Rattle.std.specs.Result.{IsErrAnd}
use Rattle.std.specs.declared.io.ErrorKind.TheVariants as kinds
use Rattle.pdb_container.specs.declared.error.Error.{Error}
use Rattle.pdb_container.specs.declared.error.Error.TheVariants as errors
use Rattle.pdb_container.specs.declared.error.ModuleFault.{ModuleFault}
use Rattle.pdb_container.specs.declared.error.ModuleFault.TheVariants as kept
use Rattle.pdb_container.specs.Fault.{Fault, StreamNotFound, PageReferenceOutOfRange, IoError}
use Rattle.pdb_container.specs.Fault.{UnexpectedEof, Kept, HasRisen}
use Rattle.pdb_symbols_modules.specs.ModuleStream.{ModuleStream}

-- the stored information of a module: its own stream, where it has one, or the fault in reading it
abbrev pub KeptInfo : Type 0
KeptInfo = Result (Option ModuleStream) ModuleFault

-- The fault of a stream, as it is stored. No stream of an open file has any other.
abbrev pub kept_fault : Fault → ModuleFault
kept_fault (StreamNotFound number) = kept.StreamNotFound number
kept_fault (PageReferenceOutOfRange page) = kept.PageReferenceOutOfRange page
kept_fault (IoError kind) = kept.IoError kind
kept_fault e = kept.UnexpectedEof

-- the stored information of a module that was read
abbrev pub kept_info : Result (Option ModuleStream) Fault → KeptInfo
kept_info (Ok found) = Ok found
kept_info (Err e) = Err (kept_fault e)

-- an error as the stored information of a module, where it may be stored
abbrev pub kept_as : Result ModuleFault Error → Result KeptInfo Error
kept_as (Ok fault) = Ok (Err fault)
kept_as (Err e) = Err e

-- the answer from stored information: a fault as `Kept`
abbrev pub answered : KeptInfo → Result (Option ModuleStream) Fault
answered (Ok found) = Ok found
answered (Err fault) = Err (Kept fault)

-- the answer for a module that may be past the list, where there is none
abbrev pub answered_if_listed : Option KeptInfo → Result (Option ModuleStream) Fault
answered_if_listed None = Ok None
answered_if_listed (Some info) = answered info

-- the answer for the module with that index, counted from 0; past the list there is none
abbrev pub answered_at : List KeptInfo → ℕ → Result (Option ModuleStream) Fault
answered_at infos number = answered_if_listed (slice_get infos number)

-- a value that may be missing, whatever the reason
abbrev pub if_read : {A : Type 0} → Result A Fault → Option A
if_read (Ok x) = Some x
if_read (Err e) = None

-- a fault of the source: an error of input or output, other than that a file ends too early
abbrev pub IsSourceFault : ModuleFault → Type 0
IsSourceFault (kept.IoError kind) = kind ≢ kinds.UnexpectedEof
IsSourceFault fault = ⊥

-- The stored value is what there is, or the source failed, and it is what stands for this.
abbrev pub KeepsAt : {A : Type 0} → (A → Type 0) → Type 0 → A → A → Type 0
KeepsAt stands failed kept there = (kept ≡ there) ⊎ (failed × stands kept)

-- of a module: where the source failed, the source's fault
abbrev pub KeepsInfo : Type 0 → KeptInfo → KeptInfo → Type 0
KeepsInfo failed kept there = KeepsAt (λ k. IsErrAnd k IsSourceFault) failed kept there

-- of modules, one by one
abbrev pub KeepsInfos : Type 0 → List KeptInfo → List KeptInfo → Type 0
KeepsInfos failed kept there = AllZip (KeepsInfo failed) kept there

-- of names: where the source failed, none
abbrev pub KeepsNames : Type 0 → Option (List ℕ) → Option (List ℕ) → Type 0
KeepsNames failed kept there = KeepsAt (λ names. names ≡ None) failed kept there

-- a fault of the source, as it is answered of a module
abbrev pub AnswersSourceFault : Result (Option ModuleStream) Fault → Type 0
AnswersSourceFault (Err (Kept fault)) = IsSourceFault fault
AnswersSourceFault answer = ⊥

-- A call returned what there is, seen by view, or what stands for a failed source; its only error
-- is out of memory.
abbrev pub Keeps : {X Y : Type 0} → (Y → Y → Type 0) → (X → Y) → Result X Error → Y → Type 0
Keeps keeps view (Ok x) there = keeps (view x) there
Keeps keeps view (Err errors.OutOfMemory) there = Unit {0}
Keeps keeps view (Err e) there = ⊥

-- A call left the source's bytes as they were and its count of failures at least where it stood,
-- and returned what there is, or what stands for a failure that was counted then.
pub record KeepsFrom {S X Y : Type 0} (bytes : S → List ℕ) (failures : S → ℕ) (old new : S)
    (keeps : Type 0 → Y → Y → Type 0) (view : X → Y) (result : Result X Error) (there : Y) : Type 0
  where
    pub same : bytes new ≡ bytes old
    pub counts : failures old ≤ failures new
    pub exact : Keeps (keeps (HasRisen (failures old) (failures new))) view result there

-- the faults that a stream of an open file may have
abbrev pub IsStreamFault : Fault → Type 0
IsStreamFault (StreamNotFound number) = Unit {0}
IsStreamFault (PageReferenceOutOfRange page) = Unit {0}
IsStreamFault (IoError kind) = Unit {0}
IsStreamFault UnexpectedEof = Unit {0}
IsStreamFault e = ⊥

-- a reading that has none but such faults
abbrev pub FailsAsStream : {A : Type 0} → Result A Fault → Type 0
FailsAsStream (Ok x) = Unit {0}
FailsAsStream (Err e) = IsStreamFault e
