-- The symbol file that options ask for, from the bytes of a database's file and of its image.
use Rattle.std.specs.Prelude.{◌≡◌, ℕ, Bool, true, List, Option, Result, Ok, OnOk}
use Rattle.std.specs.Prelude.{string_bytes}
use Rattle.pdb_file_views.specs.Views.{Views, agrees}
use Rattle.pdb_image.specs.Image.{Image}
use Rattle.pdb_symbols.specs.Described.{asked_of}
use Rattle.pdb_symbols.specs.Roads.{WritesTold}
use Rattle.pdb_symbols.specs.SymbolFile.{FailsToMake, IsMade, Refusal, SymbolFile, WritesSymbols}
use Rattle.pdb_symbols.specs.SymbolFile.{symbol_file}
use Rattle.pdb_symbols.specs.declared.fault.SymbolsFault.{SymbolsFault}
use Rattle.pdb_symbols.specs.declared.options.Options.{Options}
use Rattle.pdb_symbols.specs.declared.writing.FileText.{FileText}
use Rattle.pdb_symbols_modules.specs.Streams.{streams}

-- the symbol file that options ask for, from the bytes of an image, if there are any, and the bytes
-- of a database's file
abbrev pub file_asked : Options → Option (List ℕ) → List ℕ → Result SymbolFile Refusal
file_asked options image file = symbol_file (asked_of options) image (streams file)

-- The symbol file is made, with this text and this image.
abbrev pub Makes : Options → Option (List ℕ) → List ℕ → FileText → Option Image → Type 0
Makes options bytes file text image =
    (f : SymbolFile) × (file_asked options bytes file ≡ Ok f)
    × IsMade f (string_bytes text.head) (string_bytes text.functions) image

-- Making the symbol file fails so; reads says that its database is read on demand.
abbrev pub FailsMaking : Bool → Options → Option (List ℕ) → List ℕ → SymbolsFault → Type 0
FailsMaking reads options image file e =
    FailsToMake reads (file_asked options image file) (streams file) e

-- The symbol file is written, or nothing, or a prefix of it.
abbrev pub WritesAsked : Bool → Options → Option (List ℕ) → List ℕ → Option (List ℕ)
    → Option (List ℕ) → Result (Unit {0}) SymbolsFault → Type 0
WritesAsked reads options image file old new result =
    WritesSymbols reads options.demangle (file_asked options image file) (streams file) old new
    result

-- the same of a database that is read on demand, by bytes that agree with all that was read
abbrev pub WritesOnDemand : Views → Options → Option (List ℕ) → List ℕ → Option (List ℕ)
    → Option (List ℕ) → Result (Unit {0}) SymbolsFault → Type 0
WritesOnDemand views options image file old new result =
    agrees views file ≡ true → WritesAsked true options image file old new result

-- a consumer says what is told, from the text that was written of a database that is read on demand
abbrev pub SaysOnDemand : Views → Options → List ℕ → Option (List ℕ) → Option (List ℕ)
    → Result (Unit {0}) SymbolsFault → Type 0
SaysOnDemand views options file old new result = agrees views file ≡ true
    → OnOk result (WritesTold options.demangle options.inlines (streams file) old new)
