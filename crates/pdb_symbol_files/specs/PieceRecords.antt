-- The records of functions by pieces, in the order in which the code goes over them.
-- `piece_records` and `symbol_records` are proved to be the same.
use Rattle.std.specs.Prelude.{◌≡◌, ◌==◌, ◌<◌, ℕ, ◌-◌, ◌++◌, Bool, true, false, List, [], ◌∷◌}
use Rattle.std.specs.Prelude.{if◌then◌else◌, length, max, OnOk, Option, None, Result, Some, zero, suc}
use Rattle.std.specs.List.{flat_map, fold}
use Rattle.std.specs.Option.{option_or, option_to_list}
use Rattle.pdb_symbol_files.specs.Told.{Answer, answers_in, Call, Piece, continues, end_of}
use Rattle.pdb_symbol_files.specs.Spans.{Span, SourcePlace, same_place, place_of, Path, path_of}
use Rattle.pdb_symbol_files.specs.Spans.{same_calls}
use Rattle.pdb_symbol_files.specs.Records.{used, Numbers, LineRecord, line_record, InlineRecord}
use Rattle.pdb_symbol_files.specs.Records.{inline_record, FunctionRecord, SymbolRecords}
use Rattle.pdb_symbol_files.specs.RecordTexts.{function_text, head_text, inline_text, line_text}

-- ---- spans

-- the span of a piece, if something is known of it
abbrev pub begun : {K : Type 0} → Piece → Option K → Option (Span K)
begun p None = None
begun p (Some key) = Some (record { start = p.address; end = end_of p; key = key })

-- a key is known, and is the same as a span's
abbrev pub is_key : {K : Type 0} → (K → K → Bool) → K → Option K → Bool
is_key same key None = false
is_key same key (Some other) = same key other

-- the span that goes on with a piece, if it does
abbrev pub longer : {K : Type 0} → (K → K → Bool) → Option (Span K) → Piece → Option K
    → Option (Span K)
longer same None p known = None
longer same (Some s) p known =
    if is_key same s.key known
    then Some (record { start = s.start; end = end_of p; key = s.key }) else None

-- the span that ends before a piece, unless it goes on
abbrev pub ended : {K : Type 0} → Option (Span K) → Option (Span K) → List (Span K)
ended running None = option_to_list running
ended running (Some s) = []

-- the span that runs after a piece: the one before it, if that goes on, otherwise the piece's own
abbrev pub next_span : {K : Type 0} → (K → K → Bool) → Option (Span K) → Piece → Option K
    → Option (Span K)
next_span same running p known = option_or (longer same running p known) (begun p known)

-- the spans of pieces, each of which begins where the one before ends; one may run before them
abbrev pub spans : {K : Type 0} → (K → K → Bool) → (Piece → Option K) → Option (Span K)
    → List Piece → List (Span K)
spans same known running [] = option_to_list running
spans same known running (p ∷ pieces) =
    ended running (longer same running p (known p))
    ++ spans same known (next_span same running p (known p)) pieces

abbrev pub place_in : Piece → Option SourcePlace
place_in p = place_of p.told

abbrev pub path_in : ℕ → Piece → Option Path
path_in level p = path_of level (p.told).calls

-- the spans of a level of a function's pieces
abbrev pub level_spans : ℕ → List Piece → List (Span Path)
level_spans level pieces = spans same_calls (path_in level) None pieces

-- the spans of places of a function's pieces
abbrev pub line_spans : List Piece → List (Span SourcePlace)
line_spans pieces = spans same_place place_in None pieces

-- ---- numbers that are given as they are used

abbrev pub no_numbers : Numbers
no_numbers = record { files = []; origins = [] }

-- line records of spans, by the files that were used before
abbrev pub line_records : List (List ℕ) → List (Span SourcePlace) → List LineRecord
line_records files [] = []
line_records files (s ∷ rest) =
    line_record files s ∷ line_records (used files (s.key).file) rest

-- the files that are used after the line records of spans
abbrev pub files_after : List (List ℕ) → List (Span SourcePlace) → List (List ℕ)
files_after files [] = files
files_after files (s ∷ rest) = files_after (used files (s.key).file) rest

-- the numbers after the record of a call
abbrev pub with_call : Numbers → Call → Numbers
with_call n c = record { files = used n.files c.file; origins = used n.origins c.callee }

-- INLINE records of a level's spans, by the numbers that were given before
abbrev pub inline_records : Numbers → ℕ → List (Span Path) → List InlineRecord
inline_records n level [] = []
inline_records n level (s ∷ rest) =
    inline_record n level s ∷ inline_records (with_call n (s.key).call) level rest

-- the numbers that are given after the records of a level's spans
abbrev pub numbers_after : Numbers → List (Span Path) → Numbers
numbers_after n [] = n
numbers_after n (s ∷ rest) = numbers_after (with_call n (s.key).call) rest

-- the INLINE records of so many levels from one on
abbrev pub level_records : Numbers → ℕ → ℕ → List Piece → List InlineRecord
level_records n level zero pieces = []
level_records n level (suc count) pieces =
    inline_records n level (level_spans level pieces)
    ++ level_records (numbers_after n (level_spans level pieces)) (suc level) count pieces

-- the numbers after the INLINE records of so many levels
abbrev pub numbers_after_levels : Numbers → ℕ → ℕ → List Piece → Numbers
numbers_after_levels n level zero pieces = n
numbers_after_levels n level (suc count) pieces =
    numbers_after_levels (numbers_after n (level_spans level pieces)) (suc level) count pieces

-- the number of levels of calls that pieces have
abbrev pub depth_of : List Piece → ℕ
depth_of [] = 0
depth_of (p ∷ pieces) = max (length (p.told).calls) (depth_of pieces)

-- ---- functions

-- the last of a piece and the pieces after it
abbrev pub last_of : Piece → List Piece → Piece
last_of p [] = p
last_of p (q ∷ pieces) = last_of q pieces

-- the address after the last one of a piece and the pieces after it
abbrev pub end_after : Piece → List Piece → ℕ
end_after p pieces = end_of (last_of p pieces)

-- the numbers after the INLINE records of a function's pieces
abbrev pub numbers_after_inlines : Numbers → List Piece → Numbers
numbers_after_inlines n pieces = numbers_after_levels n 0 (depth_of pieces) pieces

-- the record of a function's first piece and the pieces after it
abbrev pub group_record : Numbers → Piece → List Piece → FunctionRecord
group_record n p pieces = record {
  address = p.address;
  size = end_after p pieces - p.address;
  name = (p.told).function;
  inlines = level_records n 0 (depth_of (p ∷ pieces)) (p ∷ pieces);
  lines = line_records (numbers_after_inlines n (p ∷ pieces)).files
      (line_spans (p ∷ pieces));
}

-- the record of a function's pieces, if there are any
abbrev pub function_if : Numbers → List Piece → List FunctionRecord
function_if n [] = []
function_if n (p ∷ pieces) = group_record n p pieces ∷ []

-- the numbers after the record of a function's pieces
abbrev pub numbers_after_function : Numbers → List Piece → Numbers
numbers_after_function n pieces = record {
  files = files_after (numbers_after_inlines n pieces).files (line_spans pieces);
  origins = (numbers_after_inlines n pieces).origins;
}

-- a piece goes on with the function of the pieces before it; if there are none, it does
abbrev pub is_more : List Piece → Piece → Bool
is_more [] p = true
is_more (q ∷ pieces) p = continues (last_of q pieces) p

-- the pieces of each function, where some of the first may have come before
abbrev pub groups : List Piece → List Piece → List (List Piece)
groups running [] = running ∷ []
groups running (p ∷ pieces) =
    if is_more running p then groups (running ++ p ∷ []) pieces
    else running ∷ groups (p ∷ []) pieces

-- the records of functions, by the numbers that were given before
abbrev pub function_records : Numbers → List (List Piece) → List FunctionRecord
function_records n [] = []
function_records n (g ∷ rest) =
    function_if n g ++ function_records (numbers_after_function n g) rest

-- the numbers after the records of functions
abbrev pub all_numbers : Numbers → List (List Piece) → Numbers
all_numbers n [] = n
all_numbers n (g ∷ rest) = all_numbers (numbers_after_function n g) rest

-- the records of pieces
unfoldable pub piece_records : List Piece → SymbolRecords
piece_records pieces = record {
  numbers = all_numbers no_numbers (groups [] pieces);
  functions = function_records no_numbers (groups [] pieces);
}

-- ---- texts of records

-- the INLINE records of a level of pieces
abbrev pub level_text : Numbers → ℕ → List Piece → List ℕ
level_text n level pieces = flat_map inline_text (inline_records n level (level_spans level pieces))

-- the INLINE records of all levels of pieces
abbrev pub inlines_text : Numbers → List Piece → List ℕ
inlines_text n pieces = flat_map inline_text (level_records n 0 (depth_of pieces) pieces)

-- the line records of pieces
abbrev pub lines_text : List (List ℕ) → List Piece → List ℕ
lines_text files pieces = flat_map line_text (line_records files (line_spans pieces))

-- the FUNC record of pieces, from the first one and the last one
abbrev pub pieces_head : Piece → Piece → List ℕ
pieces_head first last =
    head_text first.address (end_of last - first.address) (first.told).function

-- the records of a function's pieces
abbrev pub pieces_text : Numbers → List Piece → List ℕ
pieces_text n pieces = flat_map function_text (function_if n pieces)

-- ---- one piece after another

-- the numbers and the text of the functions before the last one, and the pieces of the last one
pub record SoFar : Type 0 where
  pub numbers : Numbers
  pub last : List Piece
  pub text : List ℕ

abbrev pub nothing_yet : SoFar
nothing_yet = record { numbers = no_numbers; last = []; text = [] }

-- the last function ends
abbrev pub without_last : SoFar → SoFar
without_last s = record {
  numbers = numbers_after_function s.numbers s.last;
  last = [];
  text = s.text ++ flat_map function_text (function_if s.numbers s.last);
}

-- a piece that has addresses
abbrev pub with_piece : SoFar → Piece → SoFar
with_piece s p =
    if is_more s.last p
    then record { numbers = s.numbers; last = s.last ++ p ∷ []; text = s.text }
    else record {
      numbers = (without_last s).numbers;
      last = p ∷ [];
      text = (without_last s).text;
    }

-- a piece
abbrev pub added : SoFar → Piece → SoFar
added s p = if p.size == 0 then s else with_piece s p

-- each piece has addresses
abbrev pub AllSome : List Piece → Type 0
AllSome [] = Unit {0}
AllSome (p ∷ pieces) = (0 < p.size) × AllSome pieces

-- the records so far are the records of these answers
pub record AreOf (s : SoFar) (answers : List Answer) : Type 0 where
  pub pieces : List Piece
  pub some : AllSome pieces
  pub of : answers ≡ answers_in pieces
  pub so_far : s ≡ fold with_piece nothing_yet pieces

-- more answers were added to the answers that records are of
abbrev pub AddsAnswers : {E : Type 0} → SoFar → SoFar → List Answer → Result (Unit {0}) E → Type 0
AddsAnswers old new more result =
    (answers : List Answer) → AreOf old answers → OnOk result (AreOf new (answers ++ more))
