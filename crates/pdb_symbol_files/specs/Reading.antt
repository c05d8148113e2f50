-- The records that a consumer reads from the text of a symbol file, and the law of reading back.
use Rattle.std.specs.Prelude.{◌≡◌, ℕ, ◌+◌, ◌^◌, ◌<◌, ◌≤◌, ◌++◌, ◌||◌, ◌==◌, Bool, List, [], ◌∷◌}
use Rattle.std.specs.Prelude.{codes, if◌then◌else◌, length, zero, suc}
use Rattle.std.specs.List.{AllByRecursion}
use Rattle.std.specs.Str.{bytes_eq}
use Rattle.std.specs.Str.Parse.{digits_value}
use Rattle.pdb_symbol_files.specs.Records.{FunctionRecord, InlineRecord, LineRecord}
use Rattle.pdb_symbol_files.specs.Records.{SymbolRecords}
use Rattle.pdb_symbol_files.specs.RecordTexts.{functions_text, numbers_text}

-- ---- lines, and fields of a line

-- the lines of a text, each ended by a line feed, where a line has begun
abbrev pub lines_after : List ℕ → List ℕ → List (List ℕ)
lines_after begun [] = []
lines_after begun (b ∷ bytes) =
    if b == 10 then begun ∷ lines_after [] bytes else lines_after (begun ++ b ∷ []) bytes

abbrev pub lines_of : List ℕ → List (List ℕ)
lines_of text = lines_after [] text

-- the bytes before the first blank, and after it
abbrev pub before_blank : List ℕ → List ℕ
before_blank [] = []
before_blank (b ∷ bytes) = if b == 32 then [] else b ∷ before_blank bytes

abbrev pub after_blank : List ℕ → List ℕ
after_blank [] = []
after_blank (b ∷ bytes) = if b == 32 then bytes else after_blank bytes

-- the bytes after so many fields
abbrev pub after_fields : ℕ → List ℕ → List ℕ
after_fields zero line = line
after_fields (suc n) line = after_fields n (after_blank line)

-- the field after so many others
abbrev pub field : ℕ → List ℕ → List ℕ
field n line = before_blank (after_fields n line)

abbrev pub decimal_in : ℕ → List ℕ → ℕ
decimal_in n line = digits_value 10 (field n line)

abbrev pub hexadecimal_in : ℕ → List ℕ → ℕ
hexadecimal_in n line = digits_value 16 (field n line)

-- ---- a line

-- a record, from its line; none for a line that identifies the file, or says how functions are
-- unwound
pub data Line : Type 0 where
  FileLine : ℕ → List ℕ → Line
  OriginLine : ℕ → List ℕ → Line
  FunctionLine : ℕ → ℕ → List ℕ → Line
  InlineLine : InlineRecord → Line
  PlaceLine : LineRecord → Line
  OtherLine : Line

abbrev pub is_word : List ℕ → List ℕ → Bool
is_word line word = bytes_eq (field 0 line) word

abbrev pub inline_in : List ℕ → InlineRecord
inline_in line = record {
  level = decimal_in 1 line;
  line = decimal_in 2 line;
  file = decimal_in 3 line;
  origin = decimal_in 4 line;
  address = hexadecimal_in 5 line;
  size = hexadecimal_in 6 line;
}

abbrev pub place_in : List ℕ → LineRecord
place_in line = record {
  address = hexadecimal_in 0 line;
  size = hexadecimal_in 1 line;
  line = decimal_in 2 line;
  file = decimal_in 3 line;
}

-- a line, by the word that it begins with; one that begins with none is a line record
abbrev pub line_of : List ℕ → Line
line_of line =
    if is_word line (codes "FILE") then FileLine (decimal_in 1 line) (after_fields 2 line)
    else if is_word line (codes "INLINE_ORIGIN")
    then OriginLine (decimal_in 1 line) (after_fields 2 line)
    else if is_word line (codes "FUNC")
    then FunctionLine (hexadecimal_in 1 line) (hexadecimal_in 2 line) (after_fields 4 line)
    else if is_word line (codes "INLINE") then InlineLine (inline_in line)
    else if is_word line (codes "MODULE") || is_word line (codes "INFO")
    || is_word line (codes "STACK") then OtherLine else PlaceLine (place_in line)

-- ---- all lines

-- a file or an inlined function, and its number
pub record Numbered : Type 0 where
  pub number : ℕ
  pub text : List ℕ

-- The records of lines: files and inlined functions with their numbers, functions with the records
-- below them, and INLINE and line records that stand before the first function.
pub record ReadRecords : Type 0 where
  pub files : List Numbered
  pub origins : List Numbered
  pub functions : List FunctionRecord
  pub inlines : List InlineRecord
  pub lines : List LineRecord

abbrev pub with_line : Line → ReadRecords → ReadRecords
with_line (FileLine n text) r =
    record r { files = record { number = n; text = text } ∷ r.files }
with_line (OriginLine n text) r =
    record r { origins = record { number = n; text = text } ∷ r.origins }
with_line (FunctionLine address size name) r = record r {
  functions = record {
    address = address;
    size = size;
    name = name;
    inlines = r.inlines;
    lines = r.lines;
  } ∷ r.functions;
  inlines = [];
  lines = [];
}
with_line (InlineLine i) r = record r { inlines = i ∷ r.inlines }
with_line (PlaceLine p) r = record r { lines = p ∷ r.lines }
with_line OtherLine r = r

abbrev pub read_lines : List (List ℕ) → ReadRecords
read_lines [] = record { files = []; origins = []; functions = []; inlines = []; lines = [] }
read_lines (line ∷ rest) = with_line (line_of line) (read_lines rest)

-- the records of a text
unfoldable pub read_text : List ℕ → ReadRecords
read_text text = read_lines (lines_of text)

-- ---- the law

-- no byte is a control character
abbrev pub IsPlain : List ℕ → Type 0
IsPlain text = AllByRecursion (λ b. 32 ≤ b) text

abbrev pub IsPlainInline : InlineRecord → Type 0
IsPlainInline r = (r.level < 2 ^ 64) × (r.line < 2 ^ 64) × (r.file < 2 ^ 64)
    × (r.origin < 2 ^ 64) × (r.address < 2 ^ 64) × (r.size < 2 ^ 64)

abbrev pub IsPlainLine : LineRecord → Type 0
IsPlainLine r = (r.address < 2 ^ 64) × (r.size < 2 ^ 64) × (r.line < 2 ^ 64) × (r.file < 2 ^ 64)

pub record IsPlainFunction (r : FunctionRecord) : Type 0 where
  pub address : r.address < 2 ^ 64
  pub size : r.size < 2 ^ 64
  pub name : IsPlain r.name
  pub inlines : AllByRecursion IsPlainInline r.inlines
  pub lines : AllByRecursion IsPlainLine r.lines

-- records of which no name has a control character, and each number has 64 bits at most
pub record ArePlain (r : SymbolRecords) : Type 0 where
  pub files : AllByRecursion IsPlain (r.numbers).files
  pub origins : AllByRecursion IsPlain (r.numbers).origins
  pub few_files : length (r.numbers).files < 2 ^ 64
  pub few_origins : length (r.numbers).origins < 2 ^ 64
  pub functions : AllByRecursion IsPlainFunction r.functions

-- texts with their places
abbrev pub numbered_from : ℕ → List (List ℕ) → List Numbered
numbered_from n [] = []
numbered_from n (t ∷ texts) = record { number = n; text = t } ∷ numbered_from (n + 1) texts

-- The law of reading back: the text of records reads as these records, each file and inlined
-- function with its place among them as its number.
abbrev pub ReadsBack : SymbolRecords → Type 0
ReadsBack r = read_text (numbers_text r ++ functions_text r) ≡ record {
  files = numbered_from 0 (r.numbers).files;
  origins = numbered_from 0 (r.numbers).origins;
  functions = r.functions;
  inlines = [];
  lines = [];
}
