-- Two files that agree stream by stream have the same reports, however their pages lie.
use Rattle.std.specs.Prelude.{◌≡◌, ◌↔◌, ◌<◌, ◌^◌, ℕ, List}
use Rattle.pdb_container.specs.Alike.{ReadAlike}
use Rattle.pdb_loading.specs.declared.order.ContributionOrder.{ContributionOrder}
use Rattle.pdb_engine.specs.InputLines.{report}
use Rattle.pdb_report.specs.Answer.{answer_with, function_with, listing_with}
use Rattle.pdb_report.specs.SizesByFile.{IsSizesByFileWith}
use Rattle.pdb_loading.specs.Loading.{load_fault_with}
use Rattle.pdb_report.specs.SizesReport.{IsSizesReportWith}
use Rattle.pdb_report.specs.AddressText.{line_text}
use Rattle.pdb_symbols_modules.specs.Streams.{Streams, streams}

-- Two files have the same loading fault, or none, where section contributions have to stand in this
-- order.
abbrev pub LoadAlike : ContributionOrder → List ℕ → List ℕ → Type 0
LoadAlike order a b = load_fault_with order (streams a) ≡ load_fault_with order (streams b)

-- Two files read alike at every number.
abbrev pub AllReadAlike : List ℕ → List ℕ → Type 0
AllReadAlike a b = (n : ℕ) → n < 2 ^ 32 → ReadAlike a b n

-- Two files have the same reports where section contributions have to stand in this order: one
-- loading fault or none, at each address one answer and one function, one list of functions, and so
-- one report on each input and on each range, also by file.
pub record HaveSameReportsWith (order : ContributionOrder) (a b : Streams) : Type 0 where
  pub fault : load_fault_with order a ≡ load_fault_with order b
  pub answers : (x : ℕ) → answer_with order a x ≡ answer_with order b x
  pub functions : (x : ℕ) → function_with order a x ≡ function_with order b x
  pub lists : listing_with order a ≡ listing_with order b
  pub inputs : (input : List ℕ) → report (line_text (answer_with order a)) input
      ≡ report (line_text (answer_with order b)) input
  pub ranges : (start end : ℕ) (text : List ℕ)
      → IsSizesReportWith order a start end text ↔ IsSizesReportWith order b start end text
  pub by_file : (start end : ℕ) (text : List ℕ)
      → IsSizesByFileWith order a start end text ↔ IsSizesByFileWith order b start end text

-- Two files have the same reports, whatever order section contributions have to stand in.
abbrev pub HaveSameReports : Streams → Streams → Type 0
HaveSameReports a b = (order : ContributionOrder) → HaveSameReportsWith order a b
