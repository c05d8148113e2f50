-- A fault of the container, as a call that reads a database as a whole answers it.
use Rattle.std.proofs.Common.{◌≡◌, ℕ, ◌⊎◌, List, Result, Ok, Err, IfOk, inl, inr}
use Rattle.pdb_container.specs.declared.error.Error.{Error}
use Rattle.pdb_container.specs.declared.error.Error.TheVariants as errors
use Rattle.pdb_container.specs.Fault.{Fault, fault_of, IsOutside, HasRisen}
use Rattle.pdb_resolving.specs.declared.error.Error as upper
use Rattle.pdb_resolving.specs.declared.error.Error.TheVariants as uppers
use Rattle.pdb_resolving.specs.Fault.{error_of}
use Rattle.pdb_loading.specs.Held.{Held, IsOwn}
use Rattle.pdb_loading.proofs.HeldSteps.{own_wider}
use Rattle.pdb_addr2line.specs.Refused.{CanFail, Refuses}
use Rattle.pdb_symbols_modules.specs.Streams.{Streams}

-- a call is refused for what is outside or for the reading's fault
pub refused : {Y : Type 0} (e : Error) (failed : Type 0) (read : Result Y Fault) → (IsOutside e failed ⊎ (read ≡ Err (fault_of e))) → Refuses failed (error_of e) read
refused errors.OutOfMemory failed read h = tt
refused e failed read h = h

-- where it is known that the source failed, it could
outside_could : {S : Type 0} (bytes : S → List ℕ) (failures : S → ℕ) (before after : S) (e : Error) → bytes after ≡ bytes before → IsOutside e (HasRisen (failures before) (failures after)) → IsOutside e (CanFail bytes failures before)
outside_could bytes failures before after errors.OutOfMemory same h = tt
outside_could bytes failures before after (errors.IoError kind) same h = (h.0, (after, same, h.1))
outside_could bytes failures before after e same h = absurd h

either_could : {S Y : Type 0} (bytes : S → List ℕ) (failures : S → ℕ) (before after : S) (e : Error) (read : Result Y Fault) → bytes after ≡ bytes before
    → (IsOutside e (HasRisen (failures before) (failures after)) ⊎ (read ≡ Err (fault_of e))) → IsOutside e (CanFail bytes failures before) ⊎ (read ≡ Err (fault_of e))
either_could bytes failures before after e read same (inl h) = inl (outside_could bytes failures before after e same h)
either_could bytes failures before after e read same (inr h) = inr h

-- a failure that was counted is one that the source could have
pub refused_once : {S Y : Type 0} (bytes : S → List ℕ) (failures : S → ℕ) (before after : S) (e : upper.Error) (read : Result Y Fault) → bytes after ≡ bytes before
    → Refuses (HasRisen (failures before) (failures after)) e read → Refuses (CanFail bytes failures before) e read
refused_once bytes failures before after uppers.OutOfMemory read same h = tt
refused_once bytes failures before after (uppers.PdbError errors.OutOfMemory) read same h = h
refused_once bytes failures before after (uppers.PdbError e) read same h = either_could bytes failures before after e read same h
refused_once bytes failures before after e read same h = absurd h

own_once : {S : Type 0} (bytes : S → List ℕ) (failures : S → ℕ) (before after : S) (s : Streams) (d : Held) → bytes after ≡ bytes before
    → IsOwn s (HasRisen (failures before) (failures after)) d → IsOwn s (CanFail bytes failures before) d
own_once bytes failures before after s d same h = own_wider s d (HasRisen (failures before) (failures after)) (CanFail bytes failures before) (λ risen. (after, same, risen)) h

-- the same of what is held
pub own_if_loaded : {S : Type 0} (bytes : S → List ℕ) (failures : S → ℕ) (before after : S) (s : Streams) (r : Result Held upper.Error) → bytes after ≡ bytes before
    → IfOk r (λ d. IsOwn s (HasRisen (failures before) (failures after)) d) → IfOk r (λ d. IsOwn s (CanFail bytes failures before) d)
own_if_loaded bytes failures before after s (Ok d) same h = own_once bytes failures before after s d same h
own_if_loaded bytes failures before after s (Err e) same h = tt
