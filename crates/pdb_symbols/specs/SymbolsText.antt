-- The text of a symbol file.
use Rattle.std.specs.Prelude.{◌≡◌, ℕ, ◌++◌, Bool, true, false, List, Option, string_bytes}
use Rattle.std.specs.Io.KnownBytes.{Appends}
use Rattle.pdb_addresses.specs.declared.sections.ImageSectionHeader.{ImageSectionHeader}
use Rattle.pdb_image.specs.Image.{Image}
use Rattle.pdb_symbol_files.specs.Code.{answers_of_code}
use Rattle.pdb_symbol_files.specs.Output.{AppendsFront}
use Rattle.pdb_symbol_files.specs.Reading.{ReadsBack}
use Rattle.pdb_symbol_files.specs.Records.{SymbolRecords, symbol_records}
use Rattle.pdb_symbol_files.specs.RecordTexts.{functions_text, numbers_text}
use Rattle.pdb_symbol_files.specs.Told.{Told}
use Rattle.pdb_symbols.specs.NamedLines.{IsRenamed}
use Rattle.pdb_symbols.specs.UnwindingText.{text_of_image}
use Rattle.pdb_symbols.specs.declared.writing.FileText.{FileText}

-- the FILE and INLINE_ORIGIN records, and then the FUNC records with the records below them
abbrev pub records_text : SymbolRecords → List ℕ
records_text r = numbers_text r ++ functions_text r

-- Two texts are those of records: the records before the first FUNC record, after a head, and the
-- FUNC records with the records below them. A consumer reads them back as these records.
pub record HasRecords (before functions head : List ℕ) (r : SymbolRecords) : Type 0 where
  pub numbers : before ≡ head ++ numbers_text r
  pub functions_are : functions ≡ functions_text r
  pub back : ReadsBack r

-- a text has the records of what is told of the addresses at which code may run, after a head
abbrev pub TellsCode : List ℕ → List ImageSectionHeader → (ℕ → Option Told) → FileText → Type 0
TellsCode head sections told text =
    HasRecords (string_bytes text.head) (string_bytes text.functions) head
    (symbol_records (answers_of_code sections told))

-- ---- names

-- a text is written as it is, or with the names of functions undecorated
abbrev pub IsNamedText : Bool → List ℕ → List ℕ → Type 0
IsNamedText false text named = named ≡ text
IsNamedText true text named = IsRenamed text named

-- a text was written so
abbrev pub WritesNamed : Bool → List ℕ → Option (List ℕ) → Option (List ℕ) → Type 0
WritesNamed demangle text old new =
    (named : List ℕ) × IsNamedText demangle text named × Appends old new named

-- a prefix of such a text was written
abbrev pub WritesNamedPart : Bool → List ℕ → Option (List ℕ) → Option (List ℕ) → Type 0
WritesNamedPart demangle text old new =
    (named : List ℕ) × IsNamedText demangle text named × AppendsFront old new named

-- two texts are written so, one after the other
pub record IsNamedInParts (demangle : Bool) (head functions named : List ℕ) : Type 0 where
  pub first : List ℕ
  pub second : List ℕ
  pub first_is : IsNamedText demangle head first
  pub second_is : IsNamedText demangle functions second
  pub whole : named ≡ first ++ second

-- a text was written so, and after it how the functions of an image are unwound
abbrev pub WritesText : Bool → FileText → Option Image → Option (List ℕ) → Option (List ℕ) → Type 0
WritesText demangle text image old new =
    (named : List ℕ)
    × IsNamedInParts demangle (string_bytes text.head) (string_bytes text.functions) named
    × Appends old new (named ++ text_of_image image)

-- a prefix was written of such a text, and of how the functions of an image are unwound after it
abbrev pub WritesTextPart : Bool → FileText → Option Image → Option (List ℕ) → Option (List ℕ)
    → Type 0
WritesTextPart demangle text image old new =
    (named : List ℕ)
    × IsNamedInParts demangle (string_bytes text.head) (string_bytes text.functions) named
    × AppendsFront old new (named ++ text_of_image image)
