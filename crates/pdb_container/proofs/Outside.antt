-- What is outside one step is outside the whole.
use Rattle.std.proofs.Common.{◌≡◌, ℕ, ◌≤◌, ◌⊎◌, inl, inr, List, Result, Ok, Err, ap, arith}
use Rattle.pdb_container.specs.declared.error.Error.{Error}
use Rattle.pdb_container.specs.declared.error.Error.TheVariants.{OutOfMemory, IoError}
use Rattle.pdb_container.specs.Fault.{Fault, fault_of, ◌>>=◌, HasRisen, IsOutside, Gives}

-- an error outside, with no source, is one outside with any
pub outside_alone : (e : Error) (failed : Type 0) → IsOutside e ⊥ → IsOutside e failed
outside_alone OutOfMemory failed h = tt
outside_alone (IoError kind) failed h = absurd h.1
outside_alone e failed h = absurd h

-- a count that rose up to a time has risen up to a later time
pub outside_earlier : (e : Error) (a b c : ℕ) → b ≤ c → IsOutside e (HasRisen a b) → IsOutside e (HasRisen a c)
outside_earlier OutOfMemory a b c le h = tt
outside_earlier (IoError kind) a b c le h = (h.0, omega arith)
outside_earlier e a b c le h = absurd h

-- a count that rose since a time has risen since an earlier time
pub outside_later : (e : Error) (a b c : ℕ) → a ≤ b → IsOutside e (HasRisen b c) → IsOutside e (HasRisen a c)
outside_later OutOfMemory a b c le h = tt
outside_later (IoError kind) a b c le h = (h.0, omega arith)
outside_later e a b c le h = absurd h

-- an error outside by a later state's count is one outside by some state with the same bytes
pub outside_with : {S : Type 0} (bytes : S → List ℕ) (count : S → ℕ) (before after : S) (e : Error) → bytes after ≡ bytes before → IsOutside e (HasRisen (count before) (count after))
    → IsOutside e ((last : S) × (bytes last ≡ bytes before) × HasRisen (count before) (count last))
outside_with bytes count before after OutOfMemory same h = tt
outside_with bytes count before after (IoError kind) same h = (h.0, (after, same, h.1))
outside_with bytes count before after e same h = absurd h

-- what refuses a step refuses what goes on from it
pub refused : {Y Z : Type 0} (r : Result Y Fault) (f : Y → Result Z Fault) (e : Error) (failed : Type 0) → (IsOutside e failed ⊎ (r ≡ Err (fault_of e))) → IsOutside e failed ⊎ ((r >>= f) ≡ Err (fault_of e))
refused r f e failed (inl h) = inl h
refused r f e failed (inr h) = inr (ap (λ x. x >>= f) h)

-- what a call gives from a time on, it gives from an earlier time on
pub gives_later : {X Y : Type 0} (view : X → Y) (a b c : ℕ) (result : Result X Error) (read : Result Y Fault) → a ≤ b → Gives view (HasRisen b c) result read → Gives view (HasRisen a c) result read
gives_later view a b c (Ok x) read le h = h
gives_later view a b c (Err e) read le (inl h) = inl (outside_later e a b c le h)
gives_later view a b c (Err e) read le (inr h) = inr h
