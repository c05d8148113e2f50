-- The records of a symbol file that say how functions are unwound, and the part of a text that is
-- out.
use Rattle.std.specs.Prelude.{◌≡◌, ℕ, ◌++◌, List, [], Option, None, Some, Result, Ok, Err}
use Rattle.std.specs.List.{flat_map}
use Rattle.std.specs.Io.KnownBytes.{Appends}
use Rattle.pdb_image.specs.Image.{Image}
use Rattle.pdb_image.specs.declared.error.ImageError.{ImageError}
use Rattle.pdb_symbol_files.specs.Output.{AppendsFront}
use Rattle.pdb_image.specs.Entries.{UnwoundFunction, functions_in}
use Rattle.pdb_image.specs.Records.{records_of}
use Rattle.pdb_image.specs.Texts.{records_text}

-- the records of functions, one function after the other
abbrev pub unwound_text : List UnwoundFunction → List ℕ
unwound_text functions = flat_map (λ f. records_text (records_of f)) functions

-- the records of the functions that could be read
abbrev pub text_if_read : Result (List UnwoundFunction) ImageError → List ℕ
text_if_read (Ok functions) = unwound_text functions
text_if_read (Err e) = []

-- the records of an image; none of one whose exception directory can't be read
unfoldable pub unwinding_text : Image → List ℕ
unwinding_text image = text_if_read (functions_in image)

-- the records of an image, if there is one
abbrev pub text_of_image : Option Image → List ℕ
text_of_image None = []
text_of_image (Some image) = unwinding_text image

-- a text was written, or is kept; where writing failed, a prefix of it was
abbrev pub IsPassedOn : {E : Type 0} → Option (List ℕ) → Option (List ℕ) → List ℕ → List ℕ
    → Result (Unit {0}) E → Type 0
IsPassedOn old new text left (Err e) = AppendsFront old new text
IsPassedOn old new text left (Ok done) =
    (written : List ℕ) × Appends old new written × (text ≡ written ++ left)
