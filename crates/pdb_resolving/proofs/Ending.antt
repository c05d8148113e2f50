-- A call that makes a part of a text passes on what ends it.
use Rattle.std.proofs.Common.{◌≡◌, Result, Err, refl, ap}
use Rattle.std.specs.Prelude.{◌⊎◌}
use Rattle.pdb_container.specs.declared.error.Error as container
use Rattle.pdb_container.specs.declared.error.Error.TheVariants as causes
use Rattle.pdb_container.specs.Fault as container_fault
use Rattle.pdb_container.specs.Fault.{IsOutside, IsOfBytes, ◌>>=◌}
use Rattle.pdb_resolving.specs.declared.error.Error.{Error}
use Rattle.pdb_resolving.specs.declared.error.Error.TheVariants as errors
use Rattle.pdb_resolving.specs.declared.stop.Stop.{Stop}
use Rattle.pdb_resolving.specs.declared.stop.Stop.TheVariants as stops
use Rattle.pdb_resolving.specs.declared.table.Table.{Table}
use Rattle.pdb_resolving.specs.Cause.{Cause, Ends, of_any, of_no_table, of_table, error_in}
use Rattle.pdb_resolving.specs.Fault.{Fault, Fails, error_of, lifted}
use Rattle.pdb_resolving.proofs.Lifting.{given_fails, parsed_fails}

-- a step that has ended is the end
pub ends_on : {A B : Type 0} (s : Stop) (read : Result A Cause) (f : A → Result B Cause) → Ends s read → Ends s (read >>= f)
ends_on (stops.ByError errors.OutOfMemory) read f h = tt
ends_on (stops.ByError (errors.PdbError causes.OutOfMemory)) read f h = h
ends_on (stops.ByError (errors.FormatError cause)) read f h = h
ends_on (stops.ByError e) read f h = ap (λ r. r >>= f) h
ends_on (stops.ByTable table e) read f h = (h.0, ap (λ r. r >>= f) h.1)

-- a call that reads no table fails
pub ends_by_error : {A : Type 0} (e : Error) (read : Result A Fault) → Fails e read → Ends (stops.ByError e) (of_no_table read)
ends_by_error errors.OutOfMemory read h = tt
ends_by_error (errors.PdbError causes.OutOfMemory) read h = h
ends_by_error (errors.FormatError cause) read h = h
ends_by_error e read h = ap of_no_table h

-- the same in the middle of a chain
pub ends_by_error_on : {A B : Type 0} (e : Error) (read : Result A Fault) (f : A → Result B Cause) → Fails e read → Ends (stops.ByError e) (of_no_table read >>= f)
ends_by_error_on e read f h = ends_on (stops.ByError e) (of_no_table read) f (ends_by_error e read h)

-- a call of the container that may want memory fails, in the middle of a chain
pub ends_by_given_on : {A B : Type 0} (e : container.Error) (read : Result A container_fault.Fault) (f : A → Result B Cause)
    → (IsOutside e ⊥ ⊎ (read ≡ Err (container_fault.fault_of e))) → Ends (stops.ByError (error_of e)) (of_no_table (lifted read) >>= f)
ends_by_given_on e read f h = ends_by_error_on (error_of e) (lifted read) f (given_fails e read h)

-- a call of the container that takes no memory fails
pub ends_by_parsed : {A : Type 0} (e : container.Error) (read : Result A container_fault.Fault)
    → IsOfBytes e → read ≡ Err (container_fault.fault_of e) → Ends (stops.ByError (error_of e)) (of_no_table (lifted read))
ends_by_parsed e read bytes h = ends_by_error (error_of e) (lifted read) (parsed_fails e read bytes h)

-- a table can't be read
pub ends_by_table : {A : Type 0} (table : Table) (e : Error) (read : Result A Fault) → (e ≡ errors.OutOfMemory → ⊥) → Fails e read → Ends (stops.ByTable table e) (of_table table read)
ends_by_table table errors.OutOfMemory read other h = absurd (other refl)
ends_by_table table (errors.PdbError causes.OutOfMemory) read other h = absurd h
ends_by_table table (errors.FormatError cause) read other h = absurd h
ends_by_table table e read other h = (tt, ap (of_table table) h)

-- the same in the middle of a chain
pub ends_by_table_on : {A B : Type 0} (table : Table) (e : Error) (read : Result A Fault) (f : A → Result B Cause) → (e ≡ errors.OutOfMemory → ⊥) → Fails e read → Ends (stops.ByTable table e) (of_table table read >>= f)
ends_by_table_on table e read f other h = ends_on (stops.ByTable table e) (of_table table read) f (ends_by_table table e read other h)

-- what ends a text is answered by its error
pub ends_fails : {A : Type 0} (s : Stop) (read : Result A Cause) → Ends s read → Fails (error_in s) (of_any read)
ends_fails (stops.ByError errors.OutOfMemory) read h = tt
ends_fails (stops.ByError (errors.PdbError causes.OutOfMemory)) read h = h
ends_fails (stops.ByError (errors.FormatError cause)) read h = h
ends_fails (stops.ByError e) read h = ap of_any h
ends_fails (stops.ByTable table errors.OutOfMemory) read h = absurd h.0
ends_fails (stops.ByTable table (errors.PdbError causes.OutOfMemory)) read h = absurd h.0
ends_fails (stops.ByTable table (errors.FormatError cause)) read h = absurd h.0
ends_fails (stops.ByTable table e) read h = ap of_any h.1
