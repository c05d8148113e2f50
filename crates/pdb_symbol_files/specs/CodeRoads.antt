-- The records and the frames of the addresses at which code may run, and their law of two roads.
use Rattle.std.specs.Prelude.{◌≡◌, ℕ, ◌++◌, if◌then◌else◌, List, [], Option, None, Some}
use Rattle.pdb_addresses.specs.declared.sections.ImageSectionHeader.{ImageSectionHeader}
use Rattle.pdb_symbol_files.specs.Code.{answers_of_code, is_code}
use Rattle.pdb_symbol_files.specs.Lookup.{Shown, lookup, shown}
use Rattle.pdb_symbol_files.specs.PlainAnswers.{records_read}
use Rattle.pdb_symbol_files.specs.Reading.{read_text}
use Rattle.pdb_symbol_files.specs.Records.{SymbolRecords, symbol_records}
use Rattle.pdb_symbol_files.specs.RecordTexts.{functions_text, numbers_text}
use Rattle.pdb_symbol_files.specs.Told.{Told}

-- the records of the answers for the addresses at which code may run
abbrev pub records_of_code : List ImageSectionHeader → (ℕ → Option Told) → SymbolRecords
records_of_code sections told = symbol_records (answers_of_code sections told)

-- the frames that are told, innermost first, if anything is
abbrev pub shown_if : Option Told → List Shown
shown_if None = []
shown_if (Some told) = shown told

-- the frames that are told of an address at which code may run; none of any other address
abbrev pub shown_at : List ImageSectionHeader → (ℕ → Option Told) → ℕ → List Shown
shown_at sections told address = if is_code sections address then shown_if (told address) else []

-- the frames for an address, of a consumer that reads a text
abbrev pub shown_by : List ℕ → ℕ → List Shown
shown_by text address = lookup (records_read (read_text text)) address

-- The law of two roads, of the addresses at which code may run: a consumer that reads the text of
-- their records says of each address what is told of it, and nothing of any other address.
abbrev pub HasCodeRoads : List ImageSectionHeader → (ℕ → Option Told) → Type 0
HasCodeRoads sections told =
    let r = records_of_code sections told in
    (address : ℕ)
    → shown_by (numbers_text r ++ functions_text r) address ≡ shown_at sections told address
