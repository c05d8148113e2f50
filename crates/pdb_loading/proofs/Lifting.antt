-- A call that loads passes a fault of the container on.
use Rattle.std.proofs.Common.{◌≡◌, ℕ, List, Result, Err, ap, inl, inr, arith}
use Rattle.std.specs.Prelude.{◌⊎◌, Option, Some}
use Rattle.pdb_container.specs.declared.error.Error.{Error}
use Rattle.pdb_container.specs.declared.error.Error.TheVariants as errors
use Rattle.pdb_container.specs.Fault.{Fault, fault_of, IsOutside, HasRisen, ◌>>=◌}
use Rattle.pdb_loading.specs.declared.load_fault.LoadFault.{LoadFault}
use Rattle.pdb_loading.specs.declared.load_fault.LoadFault.TheVariants as faults
use Rattle.pdb_resolving.specs.declared.error.Error.TheVariants as contexts
use Rattle.pdb_loading.specs.Loading.{none_or, lifted, LoadingFault}
use Rattle.pdb_loading.specs.LoadFaults.{load_fault_of, FailsLoading}

-- an error of a reading is the fault of the loading step that makes it
pub load_fails : {A B : Type 0} (e : Error) (read : Result A Fault) (f : A → Result B LoadingFault)
    → (IsOutside e ⊥ ⊎ (read ≡ Err (fault_of e))) → FailsLoading (load_fault_of e) (lifted read >>= f)
load_fails errors.OutOfMemory read f h = tt
load_fails (errors.IoError kind) read f (inl h) = absurd h.1
load_fails (errors.IoError kind) read f (inr h) = ap (λ r. lifted r >>= f) h
load_fails e read f (inl h) = absurd h
load_fails e read f (inr h) = ap (λ r. lifted r >>= f) h

-- no failure was counted where the count can't rise
rise : HasRisen 0 0 → ⊥
rise h = omega (arith, h)

pub read_fails : {A : Type 0} (e : Error) (read : Result A Fault)
    → (IsOutside e (HasRisen 0 0) ⊎ (read ≡ Err (fault_of e))) → FailsLoading (load_fault_of e) (lifted read)
read_fails errors.OutOfMemory read h = tt
read_fails (errors.IoError kind) read (inl h) = absurd (rise h.1)
read_fails (errors.IoError kind) read (inr h) = ap lifted h
read_fails e read (inl h) = absurd h
read_fails e read (inr h) = ap lifted h

-- nothing outside keeps a file in memory from being read
pub outside_none : (e : Error) → IsOutside e (HasRisen 0 0) → IsOutside e ⊥
outside_none errors.OutOfMemory h = tt
outside_none (errors.IoError kind) h = absurd (rise h.1)
outside_none e h = absurd h

-- why a container in memory isn't opened
pub opening_fails : {S : Type 0} (bytes : S → List ℕ) (before : S) (e : Error) (fault : Option Fault)
    → (IsOutside e ((after : S) × (bytes after ≡ bytes before) × HasRisen 0 0) ⊎ (fault ≡ Some (fault_of e))) → FailsLoading (load_fault_of e) (lifted (none_or fault))
opening_fails bytes before errors.OutOfMemory fault h = tt
opening_fails bytes before (errors.IoError kind) fault (inl h) = absurd (rise h.1.2)
opening_fails bytes before (errors.IoError kind) fault (inr h) = ap (λ f. lifted (none_or f)) h
opening_fails bytes before e fault (inl h) = absurd h
opening_fails bytes before e fault (inr h) = ap (λ f. lifted (none_or f)) h

-- a call that reads fails in the middle of a load
pub loads_on : {A B : Type 0} (e : Error) (read : Result A Fault) (f : A → Result B LoadingFault)
    → (IsOutside e (HasRisen 0 0) ⊎ (read ≡ Err (fault_of e))) → FailsLoading (load_fault_of e) (lifted read >>= f)
loads_on e read f (inl h) = load_fails e read f (inl (outside_none e h))
loads_on e read f (inr h) = load_fails e read f (inr h)

-- a step that has failed is the end
pub fails_on : {A B : Type 0} (e : LoadFault) (read : Result A LoadingFault) (f : A → Result B LoadingFault) → FailsLoading e read → FailsLoading e (read >>= f)
fails_on faults.OutOfMemory read f h = tt
fails_on (faults.Pdb contexts.OutOfMemory) read f h = h
fails_on (faults.Pdb (contexts.PdbError errors.OutOfMemory)) read f h = h
fails_on e read f h = ap (λ r. r >>= f) h
