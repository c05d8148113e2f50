-- The length of an answer.
use Rattle.std.specs.Prelude.{◌≡◌, ℕ, List, Option, Some}
use Rattle.std.specs.Vec.{vec_len}
use Rattle.msvc_demangler.specs.declared.answer.Demangled.{Demangled}
use Rattle.msvc_demangler.specs.declared.answer.Demangled.TheVariants.{Text, Undecorated}

-- the number of the text's bytes
abbrev pub text_length : Demangled → ℕ
text_length (Text text) = vec_len text
text_length Undecorated = 0

-- an answer that is a text is this one
abbrev pub IsTextOf : Option (List ℕ) → Demangled → Type 0
IsTextOf expected (Text text) = expected ≡ Some text.items
IsTextOf expected Undecorated = Unit {0}
