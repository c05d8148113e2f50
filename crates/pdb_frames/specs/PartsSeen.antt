-- The parts that every question goes over, as a call makes or checks them of what it is given.
use Rattle.std.specs.Borrow.{Bor}
use Rattle.std.specs.Prelude.{ℕ, List, Option, Result, Ok, option_copied}
use Rattle.pdb_addresses.specs.Addresses.{Map}
use Rattle.pdb_addresses.specs.declared.sections.ImageSectionHeader.{ImageSectionHeader}
use Rattle.pdb_frames.specs.Choice.{Parts}
use Rattle.pdb_frames.specs.Parts.{outcome, parts_in_any_order, parts_of}
use Rattle.pdb_resolving.specs.Fault.{Answers, Fault}
use Rattle.pdb_resolving.specs.declared.error.Error.{Error}
use Rattle.pdb_symbols_modules.specs.Dbi.{Dbi}

-- a call made these parts, unless memory was short
abbrev pub AreMade : Result Parts Error → Parts → Type 0
AreMade result parts = Answers (λ p. p) result (Ok parts)

-- A call made the parts from the sections of the image, the address map, the symbol records, the
-- DBI stream and the string table, if there is one, or was refused for the fault of reading them.
abbrev pub MakesParts : List ImageSectionHeader → Map → List ℕ → Dbi → Option (Bor (List ℕ))
    → Result Parts Error → Type 0
MakesParts sections map symbol_records header table result = Answers (λ p. p) result
    (parts_of sections map symbol_records header.contributions (option_copied table))

-- the same where contributions may stand in any order
abbrev pub MakesInAnyOrder : List ImageSectionHeader → Map → List ℕ → Dbi → Option (Bor (List ℕ))
    → Result Parts Error → Type 0
MakesInAnyOrder sections map symbol_records header table result = Answers (λ p. p) result
    (parts_in_any_order sections map symbol_records header.contributions (option_copied table))

-- a call found out whether something can be made, or the fault of reading it
abbrev pub Checks : Result (Unit {0}) Error → Result (Unit {0}) Fault → Type 0
Checks result checked = Answers (λ _. tt) result checked

-- a call found out whether the parts can be made, whatever address map and names are
abbrev pub ChecksParts : List ImageSectionHeader → List ℕ → List ℕ → Result (Unit {0}) Error
    → Type 0
ChecksParts sections symbol_records contributions result = (map : Map) (names : Option (List ℕ))
    → Checks result (outcome (parts_of sections map symbol_records contributions names))

-- the same where contributions may stand in any order
abbrev pub ChecksInAnyOrder : List ImageSectionHeader → List ℕ → List ℕ → Result (Unit {0}) Error
    → Type 0
ChecksInAnyOrder sections symbol_records contributions result =
    (map : Map) (names : Option (List ℕ)) → Checks result
    (outcome (parts_in_any_order sections map symbol_records contributions names))
