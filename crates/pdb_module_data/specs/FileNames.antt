-- The ends of the names of the string table.
use Rattle.std.specs.Prelude.{◌≡◌, ℕ, ◌+◌, ◌<◌, ◌≤◌, ◌==◌, List, [], ◌∷◌, length, slice_range}
use Rattle.std.specs.Prelude.{Option, None, Some, IfSome, MatchOption, if◌then◌else◌, Ok, Err}
use Rattle.std.specs.Prelude.{option_and_then}
use Rattle.pdb_container.specs.Fault.{UnexpectedEof}
use Rattle.pdb_container.specs.StringTable.{name_in, text_in}
use Rattle.pdb_module_data.specs.FunctionLine.{if_read}

-- the starts of the names after each NUL, of bytes of which the first lies at a place
abbrev pub after_nuls : ℕ → List ℕ → List ℕ
after_nuls at [] = []
after_nuls at (byte ∷ bytes) =
    let others = after_nuls (at + 1) bytes in
    if byte == 0 then (at + 1) ∷ others else others

-- A table's names as text are its names, and the starts are those of the names after its NULs.
-- Without a table there is neither text nor start.
abbrev pub AreNamesOf : Option (List ℕ) → Option (List ℕ) → List ℕ → Type 0
AreNamesOf None text starts = (text ≡ None) × (starts ≡ [])
AreNamesOf (Some names) text starts =
    IfSome text (λ all. all ≡ names) × (starts ≡ after_nuls 0 names)

-- the name at an offset ends at this place, before a NUL
pub record EndsAt (names : List ℕ) (offset end : ℕ) : Type 0 where
  pub from : offset ≤ end
  pub within : end < length names
  pub name : name_in names offset ≡ Ok (slice_range names offset end)

-- the end of the name at an offset; where there is no such place, no NUL ends the name
abbrev pub IsNameEnd : Option ℕ → List ℕ → ℕ → Type 0
IsNameEnd end names offset =
    MatchOption end (name_in names offset ≡ Err UnexpectedEof) (EndsAt names offset)

-- the name at an offset as text; none where there is no table or no such name
abbrev pub name_text : Option (List ℕ) → ℕ → Option (List ℕ)
name_text table offset = option_and_then (λ names. if_read (text_in names offset)) table
