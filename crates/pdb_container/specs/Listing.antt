-- Values that stand one after the other in bytes, in order, and the fault that ends them.
use Rattle.std.specs.Prelude.{◌≡◌, ℕ, zero, suc, List, [], ◌∷◌, length, nat_lt, if◌then◌else◌}
use Rattle.std.specs.Prelude.{Option, None, Some, Result, Ok, Err}
use Rattle.pdb_container.specs.declared.error.Error.{Error}
use Rattle.pdb_container.specs.Fault.{Fault, fault_of, IsOfBytes}
use Rattle.pdb_container.specs.Fields.{Reader}

-- values in their order, and the fault at which they end, or none
pub record Listing (A : Type 0) : Type 0 where
  pub items : List A
  pub fault : Option Fault

-- no value, and this end
abbrev pub ending : {A : Type 0} → Option Fault → Listing A
ending fault = record { items = []; fault = fault }

-- a value before others
abbrev pub before : {A : Type 0} → A → Listing A → Listing A
before x others = record { items = x ∷ others.items; fault = others.fault }

-- A value that was read from so many bytes, before the values in the bytes after it; or the fault.
-- Fewer bytes have to be left: a value that takes no byte would come again and again, and ends the
-- list. No reading that is used gives one.
abbrev pub onward : {A : Type 0} → (List ℕ → Listing A) → ℕ → Result (A × List ℕ) Fault → Listing A
onward others count (Ok read) =
    if nat_lt (length read.1) count then before read.0 (others read.1) else ending None
onward others count (Err e) = ending (Some e)

-- the values, in at most so many steps, which are enough where they are as many as the bytes
unfoldable pub listing_within : {A : Type 0} → Reader A → ℕ → List ℕ → Listing A
listing_within one steps [] = ending None
listing_within one zero (b ∷ bytes) = ending None
listing_within one (suc steps) (b ∷ bytes) =
    onward (listing_within one steps) (length (b ∷ bytes)) (one (b ∷ bytes))

-- the values, to the end of the bytes
abbrev pub listing : {A : Type 0} → Reader A → List ℕ → Listing A
listing one bytes = listing_within one (length bytes) bytes

-- values that end well, or the fault
abbrev pub whole_with : {A : Type 0} → Option Fault → List A → Result (List A) Fault
whole_with None items = Ok items
whole_with (Some e) items = Err e

-- all values of a list, or the fault at which it ends
abbrev pub whole : {A : Type 0} → Listing A → Result (List A) Fault
whole l = whole_with l.fault l.items

-- An iterator's next value of those still to come, and the values after it: after an end or a fault
-- there are none. The iterator's fault is the list's, and never out of memory.
abbrev pub Advances : {X A : Type 0} → (X → A) → Listing A → Result (Option X) Error → Listing A
    → Type 0
Advances view old (Ok (Some x)) new = old ≡ before (view x) new
Advances view old (Ok None) new = (old ≡ ending None) × (new ≡ ending None)
Advances view old (Err e) new =
    IsOfBytes e × (old ≡ ending (Some (fault_of e))) × (new ≡ ending None)
