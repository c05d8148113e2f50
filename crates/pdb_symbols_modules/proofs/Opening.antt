-- What opening says of the fault at which a container isn't opened.
use Rattle.std.proofs.Common.{◌≡◌, Result, Ok, Err, refl, ap, inl, inr}
use Rattle.std.specs.Prelude.{◌⊎◌, IsOk, Option, None, Some}
use Rattle.pdb_symbols_modules.specs.Streams.{fault_in}

-- a reading that went well has no fault
pub opened_well : {A F : Type 0} (read : Result A F) → IsOk read → fault_in read ≡ None
opened_well (Ok x) h = refl
opened_well (Err e) h = absurd cc

-- a reading that was refused has its fault
pub not_opened : {A F : Type 0} (outside : Type 0) (read : Result A F) (e : F)
    → (outside ⊎ (read ≡ Err e)) → (outside ⊎ (fault_in read ≡ Some e))
not_opened outside read e (inl h) = inl h
not_opened outside read e (inr h) = inr (ap fault_in h)
