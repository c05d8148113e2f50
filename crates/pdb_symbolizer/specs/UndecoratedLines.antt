-- Lines of a report, and their text where the names in them are undecorated.
use Rattle.std.specs.Prelude.{◌≡◌, ◌⊎◌, ℕ, ◌+◌, ◌^◌, ◌==◌, ◌&&◌, ◌||◌, ◌≤◌, nat_le, nat_lt, not}
use Rattle.std.specs.Prelude.{Bool, true, false, if◌then◌else◌, List, [], ◌∷◌, ◌++◌, length, take}
use Rattle.std.specs.Global.{Vec}
use Rattle.std.specs.Prelude.{codes, drop, slice_index, OnOk, Result}
use Rattle.std.specs.List.{All, AllPass, flat_map, prefix_len, starts_with}
use Rattle.json_strings.specs.Json.{escaped}
use Rattle.pdb_symbolizer.specs.declared.undecorated.lines.ReportKind.{ReportKind}
use Rattle.pdb_symbolizer.specs.declared.undecorated.lines.ReportKind.TheVariants.{Frames, Json}
use Rattle.pdb_symbolizer.specs.declared.undecorated.lines.ReportKind.TheVariants.{Sizes}

-- A byte of a line. A newline ends it; in JSON so does an opening brace, so that a line has at most
-- one frame.
abbrev pub is_in_line : ReportKind → ℕ → Bool
is_in_line Json b = not ((b == 10) || (b == 123))
is_in_line kind b = not (b == 10)

-- a byte of a word
abbrev pub is_in_word : ℕ → Bool
is_in_word b = not (b == 32)

-- a byte of a name, which a quote ends in JSON, too
abbrev pub is_in_name : ReportKind → ℕ → Bool
is_in_name Json b = not ((b == 32) || (b == 34))
is_in_name kind b = is_in_word b

-- the place after the next blank from a place of a line on; the line's end if there is none
abbrev pub after_blank : List ℕ → ℕ → ℕ
after_blank line start =
    let blank = start + prefix_len is_in_word (drop start line) in
    if nat_lt blank (length line) then blank + 1 else blank

-- the place at which a line's name begins; the line's end if it has none: after two blanks in a
-- line of frames, after the start and the count in a line of sizes, and after its member's name in
-- JSON
unfoldable pub name_start : ReportKind → List ℕ → ℕ
name_start Frames line =
    if (slice_index line 0 == 32) && (slice_index line 1 == 32) then 2 else length line
name_start Sizes line = after_blank line (after_blank line 0)
name_start Json line =
    if starts_with (λ a b. a == b) line (codes "\"function\":\"") then 12 else length line

-- the place at which a line's name ends
abbrev pub name_end : ReportKind → List ℕ → ℕ
name_end kind line =
    name_start kind line + prefix_len (is_in_name kind) (drop (name_start kind line) line)

-- the name of a line, empty if it has none
abbrev pub name_in : ReportKind → List ℕ → List ℕ
name_in kind line =
    let rest = drop (name_start kind line) line in take (prefix_len (is_in_name kind) rest) rest

-- a name that may be decorated: ? and at least two bytes more, since ?? stands for no name
abbrev pub is_decorated : List ℕ → Bool
is_decorated name = nat_le 3 (length name) && (slice_index name 0 == 63)

-- A text that may stand for a name: the name itself; or, where it may be decorated, a text of at
-- most 2^20 bytes.
abbrev pub IsNameText : List ℕ → List ℕ → Type 0
IsNameText name text =
    (text ≡ name) ⊎ ((is_decorated name ≡ true) × (length text ≤ 2 ^ 20))

-- A text that may stand for a name in a report of a kind: in JSON the name as it stands, or the
-- text as it is escaped in a string.
abbrev pub IsTextIn : ReportKind → List ℕ → List ℕ → Type 0
IsTextIn Json name text = (text ≡ name)
    ⊎ ((plain : List ℕ) × IsNameText name plain × (text ≡ flat_map escaped plain))
IsTextIn kind name text = IsNameText name text

-- a line with another text for its name, and the rest as it stands
abbrev pub IsNamed : ReportKind → List ℕ → List ℕ → Type 0
IsNamed kind line named = (text : List ℕ) × IsTextIn kind (name_in kind line) text
    × (named ≡ take (name_start kind line) line ++ text ++ drop (name_end kind line) line)

-- no byte ends a line
abbrev pub IsUnbroken : ReportKind → List ℕ → Type 0
IsUnbroken kind text = AllPass (is_in_line kind) text

-- a text is a line, the byte that ends it and the rest after it
pub record SplitsLine (kind : ReportKind) (text line : List ℕ) (end : ℕ) (after : List ℕ)
    : Type 0 where
  pub unbroken : IsUnbroken kind line
  pub ends : is_in_line kind end ≡ false
  pub whole : text ≡ line ++ end ∷ after

-- a line as it was, as it is written, and the byte that ends it
pub record Line : Type 0 where
  pub stored : List ℕ
  pub named : List ℕ
  pub end : ℕ

-- a line is written with another text for its name at most
pub record IsLineOf (kind : ReportKind) (line : Line) : Type 0 where
  pub unbroken : IsUnbroken kind line.stored
  pub is_named : IsNamed kind line.stored line.named
  pub ends : is_in_line kind line.end ≡ false

-- the lines as they were, with the bytes that end them
abbrev pub stored_lines : List Line → List ℕ
stored_lines lines = flat_map (λ line. line.stored ++ line.end ∷ []) lines

-- the lines as they are written, with the bytes that end them
abbrev pub named_lines : List Line → List ℕ
named_lines lines = flat_map (λ line. line.named ++ line.end ∷ []) lines

-- A text is lines and a rest, and another text is these lines with other texts for their names.
pub record Undecorates (kind : ReportKind) (text rest named : List ℕ) : Type 0 where
  pub lines : List Line
  pub each : All (IsLineOf kind) lines
  pub stored : text ≡ stored_lines lines ++ rest
  pub written : named ≡ named_lines lines

-- The lines that end in a text are written with other texts for their names, and nothing after them
-- ends a line.
abbrev pub WritesLines : ReportKind → List ℕ → List ℕ → List ℕ → Type 0
WritesLines kind text rest named = IsUnbroken kind rest × Undecorates kind text rest named

-- ---- what a call adds to an output

-- Where a call returns well, an output has what it had before, and then some text of which a fact
-- holds.
abbrev pub AddsSome : {A E : Type 0} → Result A E → Vec ℕ → Vec ℕ → (List ℕ → Type 0) → Type 0
AddsSome result old new is_text =
    OnOk result ((text : List ℕ) × is_text text × (new.items ≡ old.items ++ text))

-- The same of a line with another text for its name, and the byte that ends it.
abbrev pub AddsLine : {A E : Type 0} → ReportKind → List ℕ → ℕ → Result A E → Vec ℕ → Vec ℕ
    → Type 0
AddsLine kind line end result old new =
    OnOk result ((text : List ℕ) × IsNamed kind line text
    × (new.items ≡ old.items ++ (text ++ end ∷ [])))

-- An output has what it had before, and then the lines that end in a text, with other texts for
-- their names; nothing after them ends a line.
abbrev pub AddsLines : ReportKind → List ℕ → List ℕ → Vec ℕ → Vec ℕ → Type 0
AddsLines kind text rest old new = IsUnbroken kind rest × ((named : List ℕ)
    × Undecorates kind text rest named × (new.items ≡ old.items ++ named))
