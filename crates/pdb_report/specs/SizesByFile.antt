-- The report on a range by source file: the number of its addresses that each file has.
use Rattle.std.specs.Prelude.{ℕ, List}
use Rattle.pdb_loading.specs.declared.order.ContributionOrder.{ContributionOrder}
use Rattle.pdb_loading.specs.declared.order.ContributionOrder.TheVariants.{InOrder}
use Rattle.pdb_owners.specs.FileReport.{IsFileReport}
use Rattle.pdb_report.specs.Answer.{files_with}
use Rattle.pdb_report.specs.SizesReport.{AreWithinPieces, IsReportOn}
use Rattle.pdb_symbols_modules.specs.Streams.{Streams}

-- The report by file: a line for each file that some of the addresses have, with the number of
-- these, and then the numbers of addresses that have no known file, that have nothing, and that
-- can't be read.
abbrev pub IsSizesByFileWith : ContributionOrder → Streams → ℕ → ℕ → List ℕ → Type 0
IsSizesByFileWith order s start end text =
    IsReportOn IsFileReport (files_with order s) order s start end text

abbrev pub IsSizesByFile : Streams → ℕ → ℕ → List ℕ → Type 0
IsSizesByFile s start end text = IsSizesByFileWith InOrder s start end text

-- A number of lookups is at most one for each piece of the range by file.
abbrev pub IsWithinFilePiecesWith : ContributionOrder → Streams → ℕ → ℕ → ℕ → Type 0
IsWithinFilePiecesWith order s start end lookups =
    AreWithinPieces (files_with order s) order s start end lookups

abbrev pub IsWithinFilePieces : Streams → ℕ → ℕ → ℕ → Type 0
IsWithinFilePieces s start end lookups = IsWithinFilePiecesWith InOrder s start end lookups
