-- The text that a call adds to an output.
use Rattle.std.specs.Global.{Vec}
use Rattle.std.specs.Prelude.{◌≡◌, ◌++◌, ℕ, List, OnOk, Result}

-- Where a call returns well, an output has what it had before, and then this text.
abbrev pub Adds : {A E : Type 0} → Result A E → Vec ℕ → Vec ℕ → List ℕ → Type 0
Adds result old new text = OnOk result (new.items ≡ old.items ++ text)
