-- The causes that end a text, and when a call that makes a part of one may return a cause.
use Rattle.std.specs.Prelude.{◌≡◌, Result, Ok, Err}
use Rattle.pdb_container.specs.declared.error.Error.TheVariants as causes
use Rattle.pdb_resolving.specs.declared.error.Error.{Error}
use Rattle.pdb_resolving.specs.declared.error.Error.TheVariants as errors
use Rattle.pdb_resolving.specs.declared.stop.Stop.{Stop}
use Rattle.pdb_resolving.specs.declared.stop.Stop.TheVariants as stops
use Rattle.pdb_resolving.specs.declared.table.Table.{Table}
use Rattle.pdb_resolving.specs.Fault.{Fault, fault_of}

-- the cause that ends a text: a fault, or a table of a module, with the fault of reading it
pub data Cause : Type 0 where
  ByFault : Fault → Cause
  ByTable : Table → Fault → Cause

-- the fault of a cause
abbrev pub fault_in : Cause → Fault
fault_in (ByFault fault) = fault
fault_in (ByTable table fault) = fault

-- a reading of no table, as a part of a text
abbrev pub of_no_table : {A : Type 0} → Result A Fault → Result A Cause
of_no_table (Ok x) = Ok x
of_no_table (Err fault) = Err (ByFault fault)

-- a reading of a table, as a part of a text
abbrev pub of_table : {A : Type 0} → Table → Result A Fault → Result A Cause
of_table table (Ok x) = Ok x
of_table table (Err fault) = Err (ByTable table fault)

-- a reading, whatever table its fault is of
abbrev pub of_any : {A : Type 0} → Result A Cause → Result A Fault
of_any (Ok x) = Ok x
of_any (Err cause) = Err (fault_in cause)

-- ---- errors

-- the error of a stop
abbrev pub error_in : Stop → Error
error_in (stops.ByError e) = e
error_in (stops.ByTable table e) = e

-- An error is that of a fault: neither out of memory nor a writer's refusal.
abbrev pub IsOfFault : Error → Type 0
IsOfFault errors.OutOfMemory = ⊥
IsOfFault (errors.PdbError causes.OutOfMemory) = ⊥
IsOfFault (errors.FormatError e) = ⊥
IsOfFault e = Unit {0}

-- A call is ended: memory was short, or the reading has that cause. Out of memory is no table's.
abbrev pub Ends : {Y : Type 0} → Stop → Result Y Cause → Type 0
Ends (stops.ByError errors.OutOfMemory) read = Unit {0}
Ends (stops.ByError (errors.PdbError causes.OutOfMemory)) read = ⊥
Ends (stops.ByError (errors.FormatError e)) read = ⊥
Ends (stops.ByError e) read = read ≡ Err (ByFault (fault_of e))
Ends (stops.ByTable table e) read = IsOfFault e × (read ≡ Err (ByTable table (fault_of e)))

-- A call's result, seen by view, is the reading's value or cause, unless memory was short.
abbrev pub Finds : {X Y : Type 0} → (X → Y) → Result X Stop → Result Y Cause → Type 0
Finds view (Ok x) read = read ≡ Ok (view x)
Finds view (Err stop) read = Ends stop read
