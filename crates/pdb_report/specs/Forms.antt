-- The texts that are written for lines, whatever the answers are that were found.
use Rattle.std.specs.Global.{Vec}
use Rattle.std.specs.Prelude.{◌≡◌, ℕ, List, Option, None, Some, Result}
use Rattle.pdb_addr2line.specs.FileFrames.{FindsHeldFrames}
use Rattle.pdb_engine.specs.Address.{address_of}
use Rattle.pdb_owners.specs.Frames.{FunctionFrames}
use Rattle.pdb_report.specs.AddressText.{AddressAnswers}
use Rattle.pdb_report.specs.Adds.{Adds}
use Rattle.pdb_resolving.specs.declared.error.Error.{Error}

-- the text that is written for a line, from the answers
abbrev pub LineText : Type 0
LineText = AddressAnswers → List ℕ → List ℕ

-- Where this was found at an address, what the answers say of the address was added.
abbrev pub AddsFound : {A E : Type 0} → (AddressAnswers → ℕ → List ℕ) → ℕ
    → Result (Option FunctionFrames) Error → Result A E → Vec ℕ → Vec ℕ → Type 0
AddsFound text address found result old new = (answers : AddressAnswers)
    → FindsHeldFrames found (answers address) → Adds result old new (text answers address)

-- The same for each line that is the address.
abbrev pub AddsFoundLine : {A E : Type 0} → LineText → ℕ → Result (Option FunctionFrames) Error
    → Result A E → Vec ℕ → Vec ℕ → Type 0
AddsFoundLine text address found result old new = (answers : AddressAnswers) (line : List ℕ)
    → Some address ≡ address_of line → FindsHeldFrames found (answers address)
    → Adds result old new (text answers line)

-- The text for a line that is no address was added.
abbrev pub AddsOther : {A E : Type 0} → LineText → List ℕ → Result A E → Vec ℕ → Vec ℕ → Type 0
AddsOther text line result old new = (answers : AddressAnswers)
    → None ≡ address_of line
    → Adds result old new (text answers line)
