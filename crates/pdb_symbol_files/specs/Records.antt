-- The records of a module's functions, from the answers for its addresses.
use Rattle.std.specs.Prelude.{ℕ, ◌-◌, ◌++◌, ◌&&◌, Bool, List, [], ◌∷◌, map, max, length}
use Rattle.std.specs.Prelude.{if◌then◌else◌, zero, suc}
use Rattle.std.specs.List.{flat_map, fold, list_any, position_or_len}
use Rattle.std.specs.Str.{bytes_eq}
use Rattle.pdb_symbol_files.specs.Told.{Answer, same_function}
use Rattle.pdb_symbol_files.specs.Stretches.{Stretch, stretches, members, size_of}
use Rattle.pdb_symbol_files.specs.Spans.{Span, SourcePlace, spans_of, is_next, same_place, place_of}
use Rattle.pdb_symbol_files.specs.Spans.{Path, path_at, same_calls}

-- ---- numbers

-- texts after a use of one: it goes last, unless it is there
abbrev pub used : List (List ℕ) → List ℕ → List (List ℕ)
used texts t = if list_any (bytes_eq t) texts then texts else texts ++ t ∷ []

-- the distinct ones of some texts, in the order of their first use, after others
abbrev pub distinct_after : List (List ℕ) → List (List ℕ) → List (List ℕ)
distinct_after before texts = fold used before texts

abbrev pub distinct : List (List ℕ) → List (List ℕ)
distinct texts = distinct_after [] texts

-- the number of a text: its place
abbrev pub number_of : List (List ℕ) → List ℕ → ℕ
number_of texts t = position_or_len (bytes_eq t) texts

-- the distinct files and inlined functions of a module, by their numbers
pub record Numbers : Type 0 where
  pub files : List (List ℕ)
  pub origins : List (List ℕ)

-- ---- line records

-- so many addresses from one on come from a line of the file with a number
pub record LineRecord : Type 0 where
  pub address : ℕ
  pub size : ℕ
  pub line : ℕ
  pub file : ℕ

abbrev pub line_record : List (List ℕ) → Span SourcePlace → LineRecord
line_record files s = record {
  address = s.start;
  size = s.end - s.start;
  line = (s.key).line;
  file = number_of files (s.key).file;
}

-- ---- INLINE records

-- over so many addresses from one on, at a level of calls, an inlined function was called from a
-- line of a file
pub record InlineRecord : Type 0 where
  pub level : ℕ
  pub line : ℕ
  pub file : ℕ
  pub origin : ℕ
  pub address : ℕ
  pub size : ℕ

abbrev pub inline_record : Numbers → ℕ → Span Path → InlineRecord
inline_record n level s = record {
  level = level;
  line = ((s.key).call).line;
  file = number_of n.files ((s.key).call).file;
  origin = number_of n.origins ((s.key).call).callee;
  address = s.start;
  size = s.end - s.start;
}

-- ---- FUNC records

-- a function's addresses, so many from one on, its name, and the records below it
pub record FunctionRecord : Type 0 where
  pub address : ℕ
  pub size : ℕ
  pub name : List ℕ
  pub inlines : List InlineRecord
  pub lines : List LineRecord

-- addresses side by side of one function: its start and its name are the same
abbrev pub one_function : Answer → Answer → Bool
one_function a b = is_next a b && same_function a.told b.told

-- the number of levels of calls that addresses have
abbrev pub levels_in : List Answer → ℕ
levels_in [] = 0
levels_in (a ∷ answers) = max (length (a.told).calls) (levels_in answers)

-- so many levels from one on
abbrev pub levels_from : ℕ → ℕ → List ℕ
levels_from level zero = []
levels_from level (suc count) = level ∷ levels_from (suc level) count

-- the levels of a function's calls
abbrev pub call_levels : Stretch Answer → List ℕ
call_levels f = levels_from 0 (levels_in (members f))

-- the places in a function, where anything is known of them
abbrev pub places : Stretch Answer → List (Span SourcePlace)
places f = spans_of same_place place_of (members f)

-- the calls of a level in a function; they differ where the calls around them do
abbrev pub calls : Stretch Answer → ℕ → List (Span Path)
calls f level = spans_of same_calls (path_at level) (members f)

abbrev pub function_record : Numbers → Stretch Answer → FunctionRecord
function_record n f = record {
  address = (f.first).address;
  size = size_of f;
  name = ((f.first).told).function;
  inlines = flat_map (λ level. map (inline_record n level) (calls f level)) (call_levels f);
  lines = map (line_record n.files) (places f);
}

-- ---- a module

-- the files that the records of a function name: the files of the calls, by level, then the files
-- of the places
abbrev pub files_in : Stretch Answer → List (List ℕ)
files_in f =
    flat_map (λ level. map (λ s. ((s.key).call).file) (calls f level)) (call_levels f)
    ++ map (λ s. (s.key).file) (places f)

-- the functions that the records of a function name as inlined
abbrev pub origins_in : Stretch Answer → List (List ℕ)
origins_in f =
    flat_map (λ level. map (λ s. ((s.key).call).callee) (calls f level)) (call_levels f)

-- the records of a module: the texts of FILE and INLINE_ORIGIN records, by their numbers, and its
-- functions
pub record SymbolRecords : Type 0 where
  pub numbers : Numbers
  pub functions : List FunctionRecord

-- the numbers of functions' files and inlined functions
abbrev pub numbers_of : List (Stretch Answer) → Numbers
numbers_of functions = record {
  files = distinct (flat_map files_in functions);
  origins = distinct (flat_map origins_in functions);
}

abbrev pub records_of : List (Stretch Answer) → SymbolRecords
records_of functions = record {
  numbers = numbers_of functions;
  functions = map (function_record (numbers_of functions)) functions;
}

-- the records of the answers for addresses
unfoldable pub symbol_records : List Answer → SymbolRecords
symbol_records answers = records_of (stretches one_function answers)
