-- Faults of answers about types, functions and addresses: the fault of an error, and when a call
-- may return one.
use Rattle.std.specs.Prelude.{◌≡◌, ℕ, List, Result, Ok, Err}
use Rattle.std.specs.String.{string_bytes}
use Rattle.pdb_container.specs.declared.error.Error as container
use Rattle.pdb_container.specs.declared.error.Error.TheVariants as causes
use Rattle.pdb_container.specs.Fault as container_fault
use Rattle.pdb_resolving.specs.declared.error.Error.{Error}
use Rattle.pdb_resolving.specs.declared.error.Error.TheVariants as errors

-- a fault of a definition: one for each variant of the crate's error but out of memory and a writer
-- that refused a text, which are in no definition
pub data Fault : Type 0 where
  PdbError : container_fault.Fault → Fault
  ArgumentTypeNotArgumentList : Fault
  FunctionIdIsNotProcedureType : Fault
  MemberFunctionIdIsNotMemberFunctionType : Fault
  UnorderedSectionContributions : ℕ → ℕ → Fault
  OverlappingSectionContributions : ℕ → ℕ → ℕ → Fault
  ProcedureLinesUnsuccessful : Fault
  ProcedureInlineRangesUnsuccessful : Fault
  ExtendedModuleInfoUnsuccessful : Fault
  ModuleImportsUnsuccessful : Fault
  ModuleExportsUnsuccessful : Fault
  CantResolveCrossModuleRefWithoutStringTable : Fault
  ModuleNameNotFound : List ℕ → Fault
  LocalIndexNotInExports : ℕ → Fault
  OutOfRangeModuleIndex : ℕ → Fault
  ModuleInfoNotFound : ℕ → Fault
  CircularTypeDefinition : ℕ → Fault

-- out of memory is a fault of its own, whichever way it came
abbrev pub error_of : container.Error → Error
error_of causes.OutOfMemory = errors.OutOfMemory
error_of e = errors.PdbError e

-- the fault of an error; out of memory and a writer's refusal have none, and no promise uses the
-- values that stand for them
abbrev pub fault_of : Error → Fault
fault_of (errors.FormatError e) = CantResolveCrossModuleRefWithoutStringTable
fault_of (errors.PdbError e) = PdbError (container_fault.fault_of e)
fault_of errors.ArgumentTypeNotArgumentList = ArgumentTypeNotArgumentList
fault_of errors.FunctionIdIsNotProcedureType = FunctionIdIsNotProcedureType
fault_of errors.MemberFunctionIdIsNotMemberFunctionType = MemberFunctionIdIsNotMemberFunctionType
fault_of (errors.UnorderedSectionContributions a b) = UnorderedSectionContributions a b
fault_of (errors.OverlappingSectionContributions a b c) = OverlappingSectionContributions a b c
fault_of errors.ProcedureLinesUnsuccessful = ProcedureLinesUnsuccessful
fault_of errors.ProcedureInlineRangesUnsuccessful = ProcedureInlineRangesUnsuccessful
fault_of errors.ExtendedModuleInfoUnsuccessful = ExtendedModuleInfoUnsuccessful
fault_of errors.ModuleImportsUnsuccessful = ModuleImportsUnsuccessful
fault_of errors.ModuleExportsUnsuccessful = ModuleExportsUnsuccessful
fault_of errors.CantResolveCrossModuleRefWithoutStringTable =
    CantResolveCrossModuleRefWithoutStringTable
fault_of (errors.ModuleNameNotFound name) = ModuleNameNotFound (string_bytes name)
fault_of (errors.LocalIndexNotInExports a) = LocalIndexNotInExports a
fault_of (errors.OutOfRangeModuleIndex a) = OutOfRangeModuleIndex a
fault_of (errors.ModuleInfoNotFound a) = ModuleInfoNotFound a
fault_of (errors.CircularTypeDefinition a) = CircularTypeDefinition a
fault_of errors.OutOfMemory = CantResolveCrossModuleRefWithoutStringTable

-- a reading of the container, with its fault as one of these
abbrev pub lifted : {A : Type 0} → Result A container_fault.Fault → Result A Fault
lifted (Ok x) = Ok x
lifted (Err e) = Err (PdbError e)

-- A call fails: memory was short, or the reading has that fault. Out of memory never comes as the
-- container's, and no writer is asked.
abbrev pub Fails : {Y : Type 0} → Error → Result Y Fault → Type 0
Fails errors.OutOfMemory read = Unit {0}
Fails (errors.PdbError causes.OutOfMemory) read = ⊥
Fails (errors.FormatError e) read = ⊥
Fails e read = read ≡ Err (fault_of e)

-- A call's result, seen by view, is the reading's value or fault, unless memory was short.
abbrev pub Answers : {X Y : Type 0} → (X → Y) → Result X Error → Result Y Fault → Type 0
Answers view (Ok x) read = read ≡ Ok (view x)
Answers view (Err e) read = Fails e read

-- a fault that a provider may return: never one that could be taken for a type's own, nor a failed
-- read
abbrev pub IsOfModules : container_fault.Fault → Type 0
IsOfModules (container_fault.TypeNotFound index) = ⊥
IsOfModules (container_fault.UnimplementedTypeKind leaf) = ⊥
IsOfModules (container_fault.IoError kind) = ⊥
IsOfModules e = Unit {0}
