-- A call passes a fault of the container, or of an earlier step, on.
use Rattle.std.proofs.Common.{◌≡◌, Result, Err, ap, inl, inr}
use Rattle.std.specs.Prelude.{◌⊎◌}
use Rattle.pdb_container.specs.declared.error.Error as container
use Rattle.pdb_container.specs.declared.error.Error.TheVariants as causes
use Rattle.pdb_container.specs.Fault as container_fault
use Rattle.pdb_container.specs.Fault.{IsOutside, IsOfBytes, ◌>>=◌}
use Rattle.pdb_resolving.specs.declared.error.Error.{Error}
use Rattle.pdb_resolving.specs.declared.error.Error.TheVariants as errors
use Rattle.pdb_resolving.specs.Fault.{Fault, error_of, lifted, Fails}

-- a step that has failed is the end
pub fails_on : {A B : Type 0} (e : Error) (read : Result A Fault) (f : A → Result B Fault) → Fails e read → Fails e (read >>= f)
fails_on errors.OutOfMemory read f h = tt
fails_on (errors.PdbError causes.OutOfMemory) read f h = h
fails_on (errors.FormatError cause) read f h = h
fails_on e read f h = ap (λ r. r >>= f) h

-- a call of the container that may want memory fails
pub given_fails : {A : Type 0} (e : container.Error) (read : Result A container_fault.Fault)
    → (IsOutside e ⊥ ⊎ (read ≡ Err (container_fault.fault_of e))) → Fails (error_of e) (lifted read)
given_fails causes.OutOfMemory read h = tt
given_fails (causes.IoError kind) read (inl h) = absurd h.1
given_fails (causes.IoError kind) read (inr h) = ap lifted h
given_fails e read (inl h) = absurd h
given_fails e read (inr h) = ap lifted h

-- the same in the middle of a chain
pub given_fails_on : {A B : Type 0} (e : container.Error) (read : Result A container_fault.Fault) (f : A → Result B Fault)
    → (IsOutside e ⊥ ⊎ (read ≡ Err (container_fault.fault_of e))) → Fails (error_of e) (lifted read >>= f)
given_fails_on e read f h = fails_on (error_of e) (lifted read) f (given_fails e read h)

-- a call of the container that takes no memory fails
pub parsed_fails : {A : Type 0} (e : container.Error) (read : Result A container_fault.Fault)
    → IsOfBytes e → read ≡ Err (container_fault.fault_of e) → Fails (error_of e) (lifted read)
parsed_fails causes.OutOfMemory read bytes h = absurd bytes
parsed_fails e read bytes h = ap lifted h

-- the same in the middle of a chain
pub parsed_fails_on : {A B : Type 0} (e : container.Error) (read : Result A container_fault.Fault) (f : A → Result B Fault)
    → IsOfBytes e → read ≡ Err (container_fault.fault_of e) → Fails (error_of e) (lifted read >>= f)
parsed_fails_on e read f bytes h = fails_on (error_of e) (lifted read) f (parsed_fails e read bytes h)
