-- The lookup of an address by a consumer of symbol files, and the law of two roads.
use Rattle.std.specs.Prelude.{◌≡◌, ℕ, ◌+◌, ◌≤◌, ◌++◌, ◌&&◌, ◌==◌, Bool, nat_lt, nat_le, List, []}
use Rattle.std.specs.Prelude.{◌∷◌, if◌then◌else◌, Option, None, Some, codes, max, slice_get}
use Rattle.std.specs.Prelude.{unwrap_or, zero, suc}
use Rattle.pdb_symbol_files.specs.Told.{Answer, Call, Told}
use Rattle.pdb_symbol_files.specs.Records.{FunctionRecord, InlineRecord, LineRecord, Numbers}
use Rattle.pdb_symbol_files.specs.Records.{SymbolRecords, symbol_records}

-- a frame as a consumer reports it: the name of its function, its file, and its line; `??` and 0
-- for what is missing
pub record Shown : Type 0 where
  pub name : List ℕ
  pub file : List ℕ
  pub line : ℕ

-- ---- frames that are told

-- the frames of a function and the inlined calls in it, innermost first
abbrev pub shown_over : List ℕ → List Call → List ℕ → ℕ → List Shown
shown_over name [] file line = record { name = name; file = file; line = line } ∷ []
shown_over name (c ∷ calls) file line =
    shown_over c.callee calls file line
    ++ record { name = name; file = c.file; line = c.line } ∷ []

abbrev pub shown : Told → List Shown
shown t = shown_over t.function t.calls t.file t.line

-- the frames that are told of an address; none where no answer is for it
abbrev pub told_at : List Answer → ℕ → List Shown
told_at [] address = []
told_at (a ∷ answers) address =
    if a.address == address then shown a.told else told_at answers address

-- ---- a consumer's frames

-- so many addresses from one on have an address among them
abbrev pub holds : ℕ → ℕ → ℕ → Bool
holds start size address = nat_le start address && nat_lt address (start + size)

-- the text with a number
abbrev pub text_at : List (List ℕ) → ℕ → List ℕ
text_at texts n = unwrap_or (slice_get texts n) (codes "??")

-- the FUNC record that has an address
abbrev pub function_at : List FunctionRecord → ℕ → Option FunctionRecord
function_at [] address = None
function_at (f ∷ functions) address =
    if holds f.address f.size address then Some f else function_at functions address

-- the line record that has an address
abbrev pub line_at : List LineRecord → ℕ → Option LineRecord
line_at [] address = None
line_at (r ∷ lines) address =
    if holds r.address r.size address then Some r else line_at lines address

-- the one of two INLINE records that begins later
abbrev pub later : InlineRecord → Option InlineRecord → Option InlineRecord
later r None = Some r
later r (Some s) = if nat_le r.address s.address then Some s else Some r

-- the INLINE record of a level that begins last of those at or before an address
abbrev pub nearest : ℕ → ℕ → List InlineRecord → Option InlineRecord
nearest level address [] = None
nearest level address (r ∷ inlines) =
    if r.level == level && nat_le r.address address
    then later r (nearest level address inlines) else nearest level address inlines

-- a record, if it has an address
abbrev pub held : ℕ → Option InlineRecord → Option InlineRecord
held address None = None
held address (Some r) = if holds r.address r.size address then Some r else None

-- the INLINE record of a level that counts at an address
abbrev pub inline_at : List InlineRecord → ℕ → ℕ → Option InlineRecord
inline_at inlines level address = held address (nearest level address inlines)

-- the number of levels
abbrev pub levels_of : List InlineRecord → ℕ
levels_of [] = 0
levels_of (r ∷ inlines) = max (suc r.level) (levels_of inlines)

-- the innermost frame, from its line record
abbrev pub innermost : Numbers → List ℕ → Option LineRecord → List Shown
innermost n name None = record { name = name; file = codes "??"; line = 0 } ∷ []
innermost n name (Some r) =
    record { name = name; file = text_at n.files r.file; line = r.line } ∷ []

-- a frame that has called another one, from the record of the call
abbrev pub caller : Numbers → List ℕ → InlineRecord → Shown
caller n name r = record { name = name; file = text_at n.files r.file; line = r.line }

-- the frames from a level on: without a record there, the innermost one; otherwise the frames of
-- the function that was called, and the frame that called it
abbrev pub walk_on : Numbers → List ℕ → List Shown → (List ℕ → List Shown) → Option InlineRecord
    → List Shown
walk_on n name here further None = here
walk_on n name here further (Some r) =
    further (text_at n.origins r.origin) ++ caller n name r ∷ []

-- the frames from a level on, of so many levels at most, by the name of the function there: level
-- by level, until one has no record for the address
abbrev pub walk : Numbers → FunctionRecord → ℕ → ℕ → ℕ → List ℕ → List Shown
walk n f address zero level name = innermost n name (line_at f.lines address)
walk n f address (suc left) level name =
    walk_on n name (innermost n name (line_at f.lines address))
    (λ callee. walk n f address left (suc level) callee) (inline_at f.inlines level address)

-- the frames at an address in a function, innermost first
abbrev pub frames_in : Numbers → ℕ → Option FunctionRecord → List Shown
frames_in n address None = []
frames_in n address (Some f) = walk n f address (levels_of f.inlines) 0 f.name

-- the frames at an address, innermost first; none where no function has it
unfoldable pub lookup : SymbolRecords → ℕ → List Shown
lookup r address = frames_in r.numbers address (function_at r.functions address)

-- ---- the law

-- addresses in ascending order, none before one
abbrev pub IsAscending : ℕ → List Answer → Type 0
IsAscending start [] = Unit {0}
IsAscending start (a ∷ answers) = (start ≤ a.address) × IsAscending (suc a.address) answers

-- The law of two roads: a consumer's frames for an address are what is told of it, and there are
-- none where nothing is told.
abbrev pub HasTwoRoads : List Answer → Type 0
HasTwoRoads answers =
    (address : ℕ) → lookup (symbol_records answers) address ≡ told_at answers address
