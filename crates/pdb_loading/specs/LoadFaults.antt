-- Faults of loading: as the code and the definitions have them, and when a call may return one.
use Rattle.std.specs.Prelude.{◌≡◌, Option, Some, Result, Err}
use Rattle.pdb_container.specs.declared.error.Error as container
use Rattle.pdb_container.specs.declared.error.Error.TheVariants as errors
use Rattle.pdb_resolving.specs.declared.error.Error as context
use Rattle.pdb_resolving.specs.declared.error.Error.TheVariants as contexts
use Rattle.pdb_resolving.specs.Fault as answers
use Rattle.pdb_loading.specs.Loading.{LoadingFault, Pdb, AddressTableDecreases}
use Rattle.pdb_loading.specs.declared.load_fault.LoadFault.{LoadFault}
use Rattle.pdb_loading.specs.declared.load_fault.LoadFault.TheVariants as faults

-- an error of the reader as a fault of loading; out of memory is a fault of its own, whichever way
-- it came
abbrev pub load_fault_of : container.Error → LoadFault
load_fault_of errors.OutOfMemory = faults.OutOfMemory
load_fault_of e = faults.Pdb (contexts.PdbError e)

-- the fault that a fault of the code is; out of memory is none, and its value there stands in no
-- promise
abbrev pub loading_fault_of : LoadFault → LoadingFault
loading_fault_of (faults.Pdb e) = Pdb (answers.fault_of e)
loading_fault_of faults.AddressTableDecreases = AddressTableDecreases
loading_fault_of faults.OutOfMemory = AddressTableDecreases

-- an error of a context as a fault of loading; out of memory is a fault of its own
abbrev pub load_fault_in_context : context.Error → LoadFault
load_fault_in_context contexts.OutOfMemory = faults.OutOfMemory
load_fault_in_context e = faults.Pdb e

-- A call returns the fault: memory was short, or reading has that fault.
abbrev pub FailsLoading : {Y : Type 0} → LoadFault → Result Y LoadingFault → Type 0
FailsLoading faults.OutOfMemory read = Unit {0}
FailsLoading (faults.Pdb contexts.OutOfMemory) read = ⊥
FailsLoading (faults.Pdb (contexts.PdbError errors.OutOfMemory)) read = ⊥
FailsLoading e read = read ≡ Err (loading_fault_of e)

-- The fault is the file's, and not out of memory.
abbrev pub IsFileFault : LoadFault → Option LoadingFault → Type 0
IsFileFault faults.OutOfMemory fault = ⊥
IsFileFault (faults.Pdb contexts.OutOfMemory) fault = ⊥
IsFileFault (faults.Pdb (contexts.PdbError errors.OutOfMemory)) fault = ⊥
IsFileFault e fault = fault ≡ Some (loading_fault_of e)

-- A file is refused where memory ran out, or with its fault.
abbrev pub Refuses : LoadFault → Option LoadingFault → Type 0
Refuses faults.OutOfMemory fault = Unit {0}
Refuses e fault = IsFileFault e fault
