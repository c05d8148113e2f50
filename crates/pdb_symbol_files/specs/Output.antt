-- The output once a text is made or written, or where this failed.
use Rattle.std.specs.Prelude.{◌≡◌, ℕ, ◌++◌, List, Option, String, string_bytes}
use Rattle.std.specs.Io.KnownBytes.{Appends}

-- a text was appended to a string
abbrev pub IsAppended : {Z : Type 0} → String Z → String Z → List ℕ → Type 0
IsAppended old new text = string_bytes new ≡ string_bytes old ++ text

-- a prefix of the text was appended to a writer's contents, where these are known
pub record AppendsFront (old new : Option (List ℕ)) (text : List ℕ) : Type 0 where
  pub front : List ℕ
  pub rest : List ℕ
  pub appends : Appends old new front
  pub whole : text ≡ front ++ rest
