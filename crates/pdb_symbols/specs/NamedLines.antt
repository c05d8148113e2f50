-- The lines of a symbol file with the names of functions undecorated.
use Rattle.std.specs.Prelude.{◌≡◌, ◌⊎◌, ℕ, ◌^◌, ◌==◌, ◌&&◌, ◌≤◌, nat_le, not, Bool}
use Rattle.std.specs.Prelude.{true, if◌then◌else◌, List, [], ◌∷◌, ◌++◌, length, codes, Some}
use Rattle.std.specs.Prelude.{slice_index, IsTrue}
use Rattle.std.specs.List.{All, AllPass, flat_map}
use Rattle.std.specs.Str.Lossy.{utf8_lossy}
use Rattle.msvc_demangler.specs.Literals.{is_literal, literal_name}
use Rattle.pdb_symbol_files.specs.Reading.{after_fields, is_word}
use Rattle.pdb_symbol_files.specs.Texts.{told_text}

-- a byte of a line
abbrev pub is_in_line : ℕ → Bool
is_in_line b = not (b == 10)

-- a byte of a field
abbrev pub is_in_word : ℕ → Bool
is_in_word b = not (b == 32)

-- no byte is a newline
abbrev pub IsUnbroken : List ℕ → Type 0
IsUnbroken text = AllPass is_in_line text

-- a text is a line, a newline and the text after it
pub record SplitsLine (text line after : List ℕ) : Type 0 where
  pub unbroken : IsUnbroken line
  pub whole : text ≡ line ++ 10 ∷ after

-- the name of a record that has one which may be decorated, of a function or of one that is
-- inlined; of any other line nothing
unfoldable pub name_of_line : List ℕ → List ℕ
name_of_line line =
    if is_word line (codes "FUNC") then after_fields 4 line
    else if is_word line (codes "INLINE_ORIGIN") then after_fields 2 line else []

-- a name that may be decorated: ? and at least two bytes more, since ?? stands for no name
abbrev pub is_decorated : List ℕ → Bool
is_decorated name = nat_le 3 (length name) && (slice_index name 0 == 63)

-- A text is that of a decorated name: the text that was printed for it, as a symbol file has texts.
-- For a string literal this is the literal.
pub record IsUndecorated (name text : List ℕ) : Type 0 where
  pub printed : List ℕ
  pub decorated : is_decorated name ≡ true
  pub few : length printed ≤ 2 ^ 20
  pub literal : IsTrue (is_literal name) → literal_name name ≡ Some printed
  pub is : text ≡ told_text (Some (utf8_lossy printed))

-- a text that may stand for a name: the name itself, or the text of a decorated one
abbrev pub IsNameText : List ℕ → List ℕ → Type 0
IsNameText name text = (text ≡ name) ⊎ IsUndecorated name text

-- a line with a text for its name, and the bytes before the name as they were
pub record IsNamed (line named : List ℕ) : Type 0 where
  pub before : List ℕ
  pub text : List ℕ
  pub line_is : line ≡ before ++ name_of_line line
  pub named_is : named ≡ before ++ text
  pub name : IsNameText (name_of_line line) text

-- a line as it was, and as it is written
abbrev pub Line : Type 0
Line = List ℕ × List ℕ

-- a line is written with another text for its name at most
abbrev pub IsLineOf : Line → Type 0
IsLineOf line = IsUnbroken line.0 × IsNamed line.0 line.1

-- the lines as they were, with their newlines
abbrev pub stored_lines : List Line → List ℕ
stored_lines lines = flat_map (λ line. line.0 ++ 10 ∷ []) lines

-- the lines as they are written, with their newlines
abbrev pub named_lines : List Line → List ℕ
named_lines lines = flat_map (λ line. line.1 ++ 10 ∷ []) lines

-- A text is lines and a rest, and another text is these lines with other texts for their names.
pub record NamesLines (text rest named : List ℕ) : Type 0 where
  pub lines : List Line
  pub each : All IsLineOf lines
  pub stored : text ≡ stored_lines lines ++ rest
  pub written : named ≡ named_lines lines

-- A text is lines, and another text is the same lines with other texts for their names. A rest that
-- no newline ends stays.
pub record IsRenamed (text named : List ℕ) : Type 0 where
  pub rest : List ℕ
  pub front : List ℕ
  pub unbroken : IsUnbroken rest
  pub lines : NamesLines text rest front
  pub whole : named ≡ front ++ rest
