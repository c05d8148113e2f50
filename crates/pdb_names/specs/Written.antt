-- Texts that are handed over to a writer.
use Rattle.std.specs.Prelude.{◌≡◌, Result, Ok, Err}
use Rattle.pdb_resolving.specs.declared.error.Error.{Error}
use Rattle.pdb_resolving.specs.declared.error.Error.TheVariants as errors
use Rattle.pdb_resolving.specs.Fault.{Fault, Fails}
use Rattle.pdb_type_printing.specs.Printed.{Text}

-- A text was made, of which a fact holds.
abbrev pub IsMade : Result Text Fault → (Text → Type 0) → Type 0
IsMade (Ok text) P = P text
IsMade (Err e) P = ⊥

-- A call that makes a text and hands it over by one call returned, and left the writer, so: the
-- writer took exactly this text; or it refused it; or no text was made, and the writer is as it
-- was.
abbrev pub Emits : {W A : Type 0} → (W → Text → W → Type 0) → (W → Text → W → Type 0) → W
    → Result A Error → W → Result Text Fault → Type 0
Emits taken refused old (Ok x) new made = IsMade made (λ text. taken old text new)
Emits taken refused old (Err (errors.FormatError e)) new made =
    IsMade made (λ text. refused old text new)
Emits taken refused old (Err e) new made = (new ≡ old) × Fails e made
