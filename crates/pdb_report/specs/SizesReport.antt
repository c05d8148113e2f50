-- Reports on a range: the number of its addresses that each function has.
use Rattle.std.specs.Prelude.{◌≡◌, ℕ, ◌≤◌, List, Option, Some, String, string_bytes}
use Rattle.std.specs.Prelude.{option_and_then}
use Rattle.std.specs.declared.cmp.Ordering.{Ordering}
use Rattle.pdb_addresses.specs.Addresses.{Map}
use Rattle.pdb_loading.specs.declared.order.ContributionOrder.{ContributionOrder}
use Rattle.pdb_loading.specs.declared.order.ContributionOrder.TheVariants.{InOrder}
use Rattle.pdb_owners.specs.Counts.{count, count_of_none, pieces}
use Rattle.pdb_addresses.specs.declared.internal_section_offset.PdbInternalSectionOffset.{
  PdbInternalSectionOffset,
}
use Rattle.pdb_owners.specs.Databases.{Database, Keyed, place_of}
use Rattle.pdb_owners.specs.Report.{IsReport}
use Rattle.pdb_owners.specs.Table.{IsTable, count_in}
use Rattle.pdb_symbols_modules.specs.Streams.{Streams}
use Rattle.pdb_report.specs.Answer.{map_with, database_with}

-- A kind of report on a range: which texts are the report on the addresses from one on and before
-- another, from the answers at places; and the answers at a file's places, with the order in which
-- section contributions have to stand.
pub record CountedKind (A : Type 0) : Type 1 where
  pub is_report : Map → Database A → ℕ → ℕ → List ℕ → Type 0
  pub places : ContributionOrder → Streams → Database A

-- a table has for each answer the number of a range's addresses; and the number that have none
pub record AreSizes {A : Type 0} (cmp : A → A → Ordering) (m : Map) (db : Database A)
    (start end : ℕ)
    (table : List (A × ℕ)) (none : ℕ) : Type 0 where
  pub in_order : IsTable cmp table
  pub each : (a : A) → count_in cmp table a ≡ count cmp m db start end a
  pub none_is : none ≡ count_of_none m db start end

-- A key stands for the answer of a place, and there is none where the place has nothing.
abbrev pub IsKeyAt : {K A : Type 0} → Keyed K A → PdbInternalSectionOffset → Option K → Type 0
IsKeyAt keyed place key =
    option_and_then keyed.answer_of key ≡ keyed.places.answer (place_of place)

-- A text is the report of a kind on each range with these counts, and this count of nothing.
abbrev pub ReportsCounts : {A Z : Type 0} → (A → A → Ordering) → CountedKind A → List (A × ℕ) → ℕ
    → String Z → Type 0
ReportsCounts {A} cmp kind table none text = (m : Map) (db : Database A) (start end : ℕ)
    → AreSizes cmp m db start end table none → kind.is_report m db start end (string_bytes text)

-- A text is a report of a kind on the addresses from one on and before another, from the answers at
-- places of a file whose section contributions have to stand in this order.
pub record IsReportOn {A : Type 0} (is_report : Map → Database A → ℕ → ℕ → List ℕ → Type 0)
    (db : Database A) (order : ContributionOrder) (s : Streams) (start end : ℕ) (text : List ℕ)
    : Type 0 where
  pub map : Map
  pub map_is : map_with order s ≡ Some map
  pub report : is_report map db start end text

-- A number of lookups is at most one for each piece of the range.
pub record AreWithinPieces {A : Type 0} (db : Database A) (order : ContributionOrder) (s : Streams)
    (start end lookups : ℕ) : Type 0 where
  pub map : Map
  pub map_is : map_with order s ≡ Some map
  pub few : lookups ≤ pieces map db start end

-- The report by function: a line for each function that some of the addresses have, with the number
-- of these, and then the number of addresses that have none.
abbrev pub IsSizesReportWith : ContributionOrder → Streams → ℕ → ℕ → List ℕ → Type 0
IsSizesReportWith order s start end text =
    IsReportOn IsReport (database_with order s) order s start end text

abbrev pub IsSizesReport : Streams → ℕ → ℕ → List ℕ → Type 0
IsSizesReport s start end text = IsSizesReportWith InOrder s start end text

-- A number of lookups is at most one for each piece of the range by function.
abbrev pub IsWithinPiecesWith : ContributionOrder → Streams → ℕ → ℕ → ℕ → Type 0
IsWithinPiecesWith order s start end lookups =
    AreWithinPieces (database_with order s) order s start end lookups

abbrev pub IsWithinPieces : Streams → ℕ → ℕ → ℕ → Type 0
IsWithinPieces s start end lookups = IsWithinPiecesWith InOrder s start end lookups
