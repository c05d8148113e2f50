-- The result and the effect of a call that writes a text whole, and stops at a failure.
use Rattle.std.specs.Prelude.{◌≡◌, ℕ, ◌+◌, ◌-◌, ◌^◌, min, List, Option, None, Some, Result, Ok, Err}
use Rattle.std.specs.declared.io.ErrorKind.{ErrorKind}
use Rattle.std.specs.Io.KnownBytes.{Appends}
use Rattle.pdb_engine.specs.InputLines.{Begins}

-- the count of failed writes: their number, and how the last one failed
abbrev pub Count : Type 0
Count = Option (ℕ × Option ErrorKind)

-- A write failed: the count rose, unless it stood at its greatest, and the kind is stored. Where
-- nothing is counted, this says nothing.
abbrev pub HasFailed : Count → Count → Type 0
HasFailed None new = Unit {0}
HasFailed (Some old) None = ⊥
HasFailed (Some old) (Some new) =
    (new.0 ≡ min (old.0 + 1) (2 ^ 64 - 1)) × ((kind : ErrorKind) × (new.1 ≡ Some kind))

-- no write failed, and the whole text was written
abbrev pub PutsAll : {T : Type 0} → (T → Option (List ℕ)) → (T → Count) → T → T → List ℕ → Type 0
PutsAll contents failures old new text =
    (failures new ≡ failures old) × Appends (contents old) (contents new) text

-- a write failed with that kind, and a prefix of the text was written
abbrev pub PutsFront : {T : Type 0} → (T → Option (List ℕ)) → (T → Count)
    → (T → ErrorKind → Type 0) → T → T → ErrorKind → List ℕ → Type 0
PutsFront contents failures has_failed old new kind text =
    HasFailed (failures old) (failures new) × has_failed new kind
    × ((out : List ℕ) × Appends (contents old) (contents new) out × Begins out text)

-- the result and the effect of a call that writes a text and stops at a failure
abbrev pub Puts : {T : Type 0} → (T → Option (List ℕ)) → (T → Count)
    → (T → ErrorKind → Type 0) → T → T → Result (Unit {0}) ErrorKind → List ℕ → Type 0
Puts contents failures has_failed old new (Ok done) text = PutsAll contents failures old new text
Puts contents failures has_failed old new (Err kind) text =
    PutsFront contents failures has_failed old new kind text
