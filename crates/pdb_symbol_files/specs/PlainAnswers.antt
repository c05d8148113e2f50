-- Plain answers: names and files without control characters, and numbers of 64 bits at most.
use Rattle.std.specs.Prelude.{◌≡◌, ℕ, ◌++◌, map}
use Rattle.std.specs.Prelude.{◌^◌, ◌<◌, List, length}
use Rattle.std.specs.List.{AllByRecursion}
use Rattle.pdb_symbol_files.specs.Lookup.{lookup, told_at}
use Rattle.pdb_symbol_files.specs.Reading.{ArePlain, IsPlain, ReadRecords, read_text}
use Rattle.pdb_symbol_files.specs.RecordTexts.{functions_text, numbers_text}
use Rattle.pdb_symbol_files.specs.Records.{SymbolRecords, symbol_records}
use Rattle.pdb_symbol_files.specs.Told.{Answer, Call, Told}

abbrev pub IsPlainCall : Call → Type 0
IsPlainCall c = IsPlain c.file × (c.line < 2 ^ 64) × IsPlain c.callee

-- no name or file that is told of an address has a control character
pub record IsPlainTold (t : Told) : Type 0 where
  pub function : IsPlain t.function
  pub file : IsPlain t.file
  pub line : t.line < 2 ^ 64
  pub calls : AllByRecursion IsPlainCall t.calls
  pub few : length t.calls < 2 ^ 64

abbrev pub IsPlainAnswer : Answer → Type 0
IsPlainAnswer a = (a.address < 2 ^ 32) × IsPlainTold a.told

abbrev pub ArePlainAnswers : List Answer → Type 0
ArePlainAnswers answers = AllByRecursion IsPlainAnswer answers

-- fewer than 2^64 files and inlined functions have numbers
abbrev pub AreCountable : SymbolRecords → Type 0
AreCountable r = (length (r.numbers).files < 2 ^ 64) × (length (r.numbers).origins < 2 ^ 64)

-- answers are plain and fewer than 2^64, as are the files and inlined functions of their records
pub record AreReadable (answers : List Answer) : Type 0 where
  pub plain : ArePlainAnswers answers
  pub few : length answers < 2 ^ 64
  pub countable : AreCountable (symbol_records answers)

-- The law of plain records: the records of such answers are plain.
abbrev pub MakesPlain : List Answer → Type 0
MakesPlain answers = AreReadable answers → ArePlain (symbol_records answers)

-- ---- the law

-- the records that were read, of files and inlined functions by their places
abbrev pub records_read : ReadRecords → SymbolRecords
records_read r = record {
  numbers = record {
    files = map (λ f. f.text) r.files;
    origins = map (λ f. f.text) r.origins;
  };
  functions = r.functions;
}

-- The law of two roads, by the text: a consumer that reads the text of records says of each address
-- what is told of it, and nothing where nothing is told.
abbrev pub HasTextRoads : List Answer → Type 0
HasTextRoads answers =
    let r = symbol_records answers in
    (address : ℕ) → lookup (records_read (read_text (numbers_text r ++ functions_text r))) address
    ≡ told_at answers address
