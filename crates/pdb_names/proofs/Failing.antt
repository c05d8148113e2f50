-- What a call that failed says of what is handed over.
use Rattle.std.proofs.Common.{◌≡◌, Result, Err}
use Rattle.pdb_resolving.specs.declared.error.Error.{Error}
use Rattle.pdb_resolving.specs.declared.error.Error.TheVariants as errors
use Rattle.pdb_resolving.specs.Fault.{Fault, Fails}
use Rattle.pdb_names.specs.Written.{Emits}
use Rattle.pdb_type_printing.specs.Printed.{Text}

-- a text that wasn't made isn't handed over
pub fails_emits : {W : Type 0} (taken refused : W → Text → W → Type 0) (old new : W) (e : Error)
    (made : Result Text Fault) → new ≡ old → Fails e made
    → Emits {A = Unit {0}} taken refused old (Err e) new made
fails_emits taken refused old new (errors.FormatError cause) made same h = absurd h
fails_emits taken refused old new e made same h = (same, h)
