-- The order in which section contributions have to stand, and the parts of every question then.
use Rattle.std.specs.Prelude.{ℕ, List, Option, Result, Ok}
use Rattle.pdb_addresses.specs.declared.sections.ImageSectionHeader.{ImageSectionHeader}
use Rattle.pdb_addresses.specs.Addresses.{Map}
use Rattle.pdb_container.specs.Fault.{◌>>=◌}
use Rattle.pdb_frames.specs.Choice.{Parts}
use Rattle.pdb_frames.specs.Parts.{parts_in_any_order, parts_of}
use Rattle.pdb_contributions.specs.Publics.{are_whole}
use Rattle.pdb_contributions.specs.UnmergedContributions.{held_in_any_order}
use Rattle.pdb_loading.specs.declared.order.ContributionOrder.{ContributionOrder}
use Rattle.pdb_loading.specs.declared.order.ContributionOrder.TheVariants.{InOrder, Any}
use Rattle.pdb_resolving.specs.Fault.{Fault, lifted}
use Rattle.pdb_symbol_records.specs.Symbols.{symbols_from}

-- the parts that every question goes over, where the contributions have to stand in this order
abbrev pub parts_with : ContributionOrder → List ImageSectionHeader → Map → List ℕ → List ℕ
    → Option (List ℕ) → Result Parts Fault
parts_with InOrder sections map symbol_records contributions names =
    parts_of sections map symbol_records contributions names
parts_with Any sections map symbol_records contributions names =
    parts_in_any_order sections map symbol_records contributions names

-- Whether the parts can be made in any order, or the fault of reading them: the symbol records have
-- to be there to their end, and then the contributions.
unfoldable pub checked_in_any_order : List ImageSectionHeader → List ℕ → List ℕ
    → Result (Unit {0}) Fault
checked_in_any_order sections symbol_records contributions = do
  read ← lifted (are_whole (symbols_from symbol_records 0))
  held ← held_in_any_order sections contributions
  Ok tt
