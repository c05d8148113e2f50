-- The parts that every question goes over, from what is read of a file.
use Rattle.std.specs.Prelude.{ℕ, List, ◌++◌, Option, Result, Ok}
use Rattle.pdb_container.specs.Fault.{◌>>=◌}
use Rattle.pdb_addresses.specs.declared.sections.ImageSectionHeader.{ImageSectionHeader}
use Rattle.pdb_addresses.specs.Addresses.{Map}
use Rattle.pdb_symbol_records.specs.Symbols.{symbols_from}
use Rattle.pdb_contributions.specs.MergedContributions.{Held, held_of}
use Rattle.pdb_contributions.specs.UnmergedContributions.{held_in_any_order}
use Rattle.pdb_contributions.specs.Publics.{PublicFunction, are_whole, entries_read, placeholders}
use Rattle.pdb_contributions.specs.Publics.{publics_among, section_ends}
use Rattle.pdb_resolving.specs.Fault.{Fault, lifted}
use Rattle.pdb_frames.specs.Choice.{Parts}

-- the parts over public functions and what modules hold
abbrev pub parts_over :
    List ImageSectionHeader → Map → Option (List ℕ) → List PublicFunction → Held → Parts
parts_over sections map names functions held =
    record {
      map = map;
      contributions = held.contributions;
      publics = publics_among
          (functions ++ placeholders held.later_starts ++ section_ends sections);
      names = names;
    }

-- The parts that every question goes over, from the sections of the image, the address map, the
-- bytes of the symbol records, the contributions of the DBI stream, and the string table. The
-- symbol records have to be there to their end, and then the contributions in order and apart.
unfoldable pub parts_of :
    List ImageSectionHeader → Map → List ℕ → List ℕ → Option (List ℕ) → Result Parts Fault
parts_of sections map symbol_records contributions names = do
  functions ← lifted (entries_read sections (symbols_from symbol_records 0))
  held ← held_of sections contributions
  Ok record {
    map = map;
    contributions = held.contributions;
    publics = publics_among (functions ++ placeholders held.later_starts ++ section_ends sections);
    names = names;
  }

-- The parts as `parts_of` has them, where the contributions may stand in any order: where merging
-- is refused for their order, the first one in the order of the file that holds a place is its
-- holder.
unfoldable pub parts_in_any_order :
    List ImageSectionHeader → Map → List ℕ → List ℕ → Option (List ℕ) → Result Parts Fault
parts_in_any_order sections map symbol_records contributions names = do
  functions ← lifted (entries_read sections (symbols_from symbol_records 0))
  held ← held_in_any_order sections contributions
  Ok (parts_over sections map names functions held)

-- whether the parts can be made, or the fault of reading them
abbrev pub outcome : Result Parts Fault → Result (Unit {0}) Fault
outcome read = read >>= λ parts. Ok tt

-- Whether the parts can be made, or the fault of reading them: the symbol records have to be there
-- to their end, and then the contributions in order and apart.
unfoldable pub parts_checked : List ImageSectionHeader → List ℕ → List ℕ → Result (Unit {0}) Fault
parts_checked sections symbol_records contributions = do
  read ← lifted (are_whole (symbols_from symbol_records 0))
  held ← held_of sections contributions
  Ok tt
