-- The first bytes of a line are enough for the line's text.
use Rattle.std.proofs.Common.{◌≡◌, ◌∙◌, ℕ, List, ◌++◌, take, refl, sym, ap, lit≤, codes}
use Rattle.std.specs.Prelude.{Option, None, Some}
use Rattle.std.specs.Str.Lossy.{utf8_lossy}
use Rattle.std.proofs.lemmas.List.{take-take}
use Rattle.json_strings.specs.Json.{string_text}
use Rattle.pdb_report.specs.AddressText.{AddressAnswers, line_text, text_at}
use Rattle.pdb_report.specs.JsonLine.{json_at, json_line, json_other}
use Rattle.pdb_engine.specs.Address.{address_of}
use Rattle.pdb_engine.proofs.AddressLemmas.{address-short}

-- the first twelve bytes of a line decide its text
pub line_short : (answers : AddressAnswers) (line : List ℕ)
    → line_text answers (take 12 line) ≡ line_text answers line
unfolding line_text
line_short answers line = ap (text_at answers) (address-short line)

module _ (line : List ℕ) where
  -- a longer start has the same address
  address_start : address_of (take 4352 line) ≡ address_of line
  address_start = sym (address-short (take 4352 line))
      ∙ ap address_of (take-take 12 4352 line (lit≤ tt)) ∙ address-short line

  -- and the same text where it isn't an address
  other_start : json_other (take 4352 line) ≡ json_other line
  unfolding json_other
  other_start = ap (λ (l : List ℕ). codes "{\"line\":" ++ string_text (utf8_lossy l)
      ++ codes ",\"error\":\"not an address\"}\n") (take-take 4352 4352 line (lit≤ tt))

  -- the text for an address, or for another line, from its start
  at_start : (answers : AddressAnswers) (address : Option ℕ)
      → json_at answers (take 4352 line) address ≡ json_at answers line address
  at_start answers None = other_start
  at_start answers (Some a) = refl

  -- the first 4,352 bytes of a line decide its line of JSON
  pub json_short : (answers : AddressAnswers)
      → json_line answers (take 4352 line) ≡ json_line answers line
  unfolding json_line
  json_short answers = at_start answers (address_of (take 4352 line))
      ∙ ap (json_at answers line) address_start
