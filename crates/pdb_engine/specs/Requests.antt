-- Lines that wait for their answers, of which some were made.
use Rattle.std.specs.Prelude.{◌≡◌, ◌⊎◌, ℕ, ◌<◌, ◌≤◌, Bool, true, List, [], ◌++◌, map, length}
use Rattle.std.specs.Prelude.{None, Some, IfSome, Result, IfOk}
use Rattle.std.specs.Global.{Vec}
use Rattle.std.specs.List.{All, Any, slice_range}
use Rattle.pdb_engine.specs.declared.line_start.LineStart.{Ghosts as StartOf}
use Rattle.pdb_engine.specs.declared.requests.Made.{Made}
use Rattle.pdb_engine.specs.declared.requests.Request.{Request}
use Rattle.pdb_engine.specs.InputLines.{kept_lines}

-- the lines of requests, each by its first bytes
abbrev pub lines_of : {L : Type 0} → (L → List ℕ) → List (Request L) → List (List ℕ)
lines_of kept requests = map (λ r. kept r.line) requests

-- the text between two offsets of others; less than 8 MB stand before it, and where the answers are
-- known it is the answer to the line
pub record IsMade
    (known : Type 0) (text : List ℕ → List ℕ) (texts line : List ℕ) (made : Made) : Type 0 where
  pub order : made.start ≤ made.end
  pub within : made.end ≤ length texts
  pub ahead : made.start < 8388608
  pub is : known → slice_range texts made.start made.end ≡ text line

-- a text that was made for a line is its answer, where that is known
abbrev pub IsAnswered : {L : Type 0} → (known : Type 0) → (L → List ℕ) → (List ℕ → List ℕ)
    → List ℕ → Request L → Type 0
IsAnswered known kept text texts r = IfSome r.made (IsMade known text texts (kept r.line))

-- each text that was made is the answer to its line, where that is known
abbrev pub AreAnswered : {L : Type 0} → (known : Type 0) → (L → List ℕ) → (List ℕ → List ℕ)
    → List ℕ → List (Request L) → Type 0
AreAnswered known kept text texts requests = All (IsAnswered known kept text texts) requests

-- the same of texts and requests that stand in vectors
abbrev pub HoldAnswers : {L : Type 0} → (known : Type 0) → (L → List ℕ) → (List ℕ → List ℕ)
    → Vec ℕ → Vec (Request L) → Type 0
HoldAnswers known kept text texts requests =
    AreAnswered known kept text texts.items requests.items

-- the lines that bytes end are added to others; the first begins with what is stored
abbrev pub AddsLines : {L : Type 0} → StartOf L → Vec (Request L) → Vec (Request L) → L → List ℕ
    → Type 0
AddsLines s old new start bytes =
    lines_of s.kept new.items
    ≡ lines_of s.kept old.items ++ kept_lines s.limit (s.kept start) bytes

-- no text was made yet
abbrev pub AreUnanswered : {L : Type 0} → List (Request L) → Type 0
AreUnanswered requests = All (λ r. r.made ≡ None) requests

-- the text that was made for a line is the last of the texts
abbrev pub HasLast : {L : Type 0} → List ℕ → Request L → Type 0
HasLast texts r = (made : Made) × (r.made ≡ Some made) × (made.end ≡ length texts)

-- one more text was made, for this line
abbrev pub MakesLast : {L E : Type 0} → Result Bool E → List ℕ → Request L → Type 0
MakesLast result texts r = IfOk result (λ is_made. (is_made ≡ true) × HasLast texts r)

-- there are no texts, or the last of them was made for one of the lines; nothing stands after it
abbrev pub HaveLast : {L : Type 0} → List ℕ → List (Request L) → Type 0
HaveLast texts requests = (texts ≡ []) ⊎ Any (HasLast texts) requests
