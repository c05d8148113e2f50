-- Faults: the fault of an error, and when a call may fail for another cause.
use Rattle.std.specs.Prelude.{◌≡◌, ◌≢◌, ℕ, ◌+◌, ◌-◌, ◌^◌, ◌≤◌, ◌⊎◌, min, Bool, if◌then◌else◌}
use Rattle.std.specs.Prelude.{Option, Some, None, Result, Ok, Err}
use Rattle.std.specs.declared.io.ErrorKind.{ErrorKind}
use Rattle.std.specs.declared.io.ErrorKind.TheVariants as kinds
use Rattle.std.specs.declared.io.Error as io
use Rattle.std.specs.IoError.{error_kind}
use Rattle.pdb_container.specs.declared.error.Error.{Error}
use Rattle.pdb_container.specs.declared.error.Error.TheVariants as errors
use Rattle.std.specs.Prelude.{List}
use Rattle.pdb_container.specs.declared.error.ModuleFault.{ModuleFault}
use Rattle.pdb_container.specs.declared.error.ModuleFault.TheVariants as kept

-- a fault of a definition: one for each variant of the crate's error but out of memory, which is in
-- no definition
pub data Fault : Type 0 where
  UnrecognizedFileFormat : Fault
  InvalidPageSize : ℕ → Fault
  PageReferenceOutOfRange : ℕ → Fault
  StreamNotFound : ℕ → Fault
  StreamNameNotFound : Fault
  InvalidStreamLength : List ℕ → Fault
  IoError : ErrorKind → Fault
  UnexpectedEof : Fault
  UnimplementedFeature : List ℕ → Fault
  GlobalSymbolsNotFound : Fault
  SymbolTooShort : Fault
  UnimplementedSymbolKind : ℕ → Fault
  InvalidTypeInformationHeader : List ℕ → Fault
  TypeTooShort : Fault
  TypeNotFound : ℕ → Fault
  TypeNotIndexed : ℕ → ℕ → Fault
  UnexpectedNumericPrefix : ℕ → Fault
  UnimplementedTypeKind : ℕ → Fault
  UnimplementedFileChecksumKind : ℕ → Fault
  InvalidFileChecksumOffset : ℕ → Fault
  InvalidCompressedAnnotation : Fault
  UnknownBinaryAnnotation : ℕ → Fault
  NotACrossModuleRef : ℕ → Fault
  CrossModuleRefNotFound : ℕ → Fault
  Kept : ModuleFault → Fault

-- the fault of an error; out of memory has none, and no promise uses the value that stands for it
abbrev pub fault_of : Error → Fault
fault_of errors.UnrecognizedFileFormat = UnrecognizedFileFormat
fault_of (errors.InvalidPageSize a) = InvalidPageSize a
fault_of (errors.PageReferenceOutOfRange a) = PageReferenceOutOfRange a
fault_of (errors.StreamNotFound a) = StreamNotFound a
fault_of errors.StreamNameNotFound = StreamNameNotFound
fault_of (errors.InvalidStreamLength a) = InvalidStreamLength a.now
fault_of (errors.IoError a) = IoError a
fault_of errors.UnexpectedEof = UnexpectedEof
fault_of (errors.UnimplementedFeature a) = UnimplementedFeature a.now
fault_of errors.GlobalSymbolsNotFound = GlobalSymbolsNotFound
fault_of errors.SymbolTooShort = SymbolTooShort
fault_of (errors.UnimplementedSymbolKind a) = UnimplementedSymbolKind a
fault_of (errors.InvalidTypeInformationHeader a) = InvalidTypeInformationHeader a.now
fault_of errors.TypeTooShort = TypeTooShort
fault_of (errors.TypeNotFound a) = TypeNotFound a
fault_of (errors.TypeNotIndexed a b) = TypeNotIndexed a b
fault_of (errors.UnexpectedNumericPrefix a) = UnexpectedNumericPrefix a
fault_of (errors.UnimplementedTypeKind a) = UnimplementedTypeKind a
fault_of (errors.UnimplementedFileChecksumKind a) = UnimplementedFileChecksumKind a
fault_of (errors.InvalidFileChecksumOffset a) = InvalidFileChecksumOffset a
fault_of errors.InvalidCompressedAnnotation = InvalidCompressedAnnotation
fault_of (errors.UnknownBinaryAnnotation a) = UnknownBinaryAnnotation a
fault_of (errors.NotACrossModuleRef a) = NotACrossModuleRef a
fault_of (errors.CrossModuleRefNotFound a) = CrossModuleRefNotFound a
fault_of (errors.Kept a) = Kept a
fault_of errors.OutOfMemory = UnexpectedEof

-- the fault that an error reports; out of memory reports none
abbrev pub said : Error → Option Fault
said errors.OutOfMemory = None
said e = Some (fault_of e)

-- an error as the fault that is stored for a module's stream; any other error stays as it is
abbrev pub kept_of : Error → Result ModuleFault Error
kept_of (errors.StreamNotFound a) = Ok (kept.StreamNotFound a)
kept_of (errors.PageReferenceOutOfRange a) = Ok (kept.PageReferenceOutOfRange a)
kept_of (errors.IoError a) = Ok (kept.IoError a)
kept_of errors.UnexpectedEof = Ok kept.UnexpectedEof
kept_of e = Err e

infixl 10 ◌>>=◌
-- a reading, and another one by its value; or the first fault
abbrev pub ◌>>=◌ : {F A B : Type 0} → Result A F → (A → Result B F) → Result B F
(Ok x) >>= f = f x
(Err e) >>= f = Err e

-- a condition that has to hold, or else the fault
abbrev pub guard : {F : Type 0} → Bool → F → Result (Unit {0}) F
guard holds fault = if holds then Ok tt else Err fault

-- a condition that must not hold, or else the fault
abbrev pub refuse : {F : Type 0} → Bool → F → Result (Unit {0}) F
refuse wrong fault = if wrong then Err fault else Ok tt

-- out of memory is a fault of its own, whichever way it came
abbrev pub error_of_kind : ErrorKind → Error
error_of_kind kinds.OutOfMemory = errors.OutOfMemory
error_of_kind kind = errors.IoError kind

-- an error of input or output as an error of a container
abbrev pub error_of : io.Error → Error
error_of cause = error_of_kind (error_kind cause)

-- a count of failures was raised, or stands at the end of its range
abbrev pub HasRisen : ℕ → ℕ → Type 0
HasRisen old new = min (old + 1) (2 ^ 64 - 1) ≤ new

-- a cause outside the file: memory was short, or the source failed and counted the failure
abbrev pub IsOutside : Error → Type 0 → Type 0
IsOutside errors.OutOfMemory failed = Unit {0}
IsOutside (errors.IoError kind) failed = (kind ≢ kinds.UnexpectedEof) × failed
IsOutside e failed = ⊥

-- A call's result, seen by view, is the reading's value or fault, unless memory was short or the
-- source failed.
abbrev pub Gives : {X Y : Type 0} → (X → Y) → Type 0 → Result X Error → Result Y Fault → Type 0
Gives view failed (Ok x) read = read ≡ Ok (view x)
Gives view failed (Err e) read = IsOutside e failed ⊎ (read ≡ Err (fault_of e))

-- a fault of the file or of the bytes, and not out of memory
abbrev pub IsOfBytes : Error → Type 0
IsOfBytes errors.OutOfMemory = ⊥
IsOfBytes e = Unit {0}

-- The result of a call that takes no memory and reads from no source, seen by view, is always the
-- reading's value or fault.
abbrev pub Parses : {X Y : Type 0} → (X → Y) → Result X Error → Result Y Fault → Type 0
Parses view (Ok x) read = read ≡ Ok (view x)
Parses view (Err e) read = IsOfBytes e × (read ≡ Err (fault_of e))

-- out of memory, or the reading's fault
abbrev pub IsFaultOf : {Y : Type 0} → Result Y Fault → Error → Type 0
IsFaultOf read e = (e ≡ errors.OutOfMemory) ⊎ (read ≡ Err (fault_of e))
