-- The report that a task asks for.
use Rattle.std.specs.Prelude.{ℕ, ◌<◌, ◌≤◌, Bool, true, false, List, Option, IfSome}
use Rattle.pdb_arguments.specs.declared.task.Task.{Task}
use Rattle.pdb_arguments.specs.declared.task.Task.TheVariants.{Frames, Sizes}
use Rattle.pdb_loading.specs.declared.order.ContributionOrder.{ContributionOrder}
use Rattle.pdb_loading.specs.declared.order.ContributionOrder.TheVariants.{InOrder, Any}
use Rattle.pdb_engine.specs.InputLines.{report}
use Rattle.pdb_report.specs.Answer.{answer_with}
use Rattle.pdb_report.specs.FrameReports.{LineText}
use Rattle.pdb_report.specs.SizesByFile.{IsSizesByFileWith}
use Rattle.pdb_report.specs.SizesReport.{IsSizesReportWith}
use Rattle.pdb_report.specs.AddressText.{line_text}
use Rattle.pdb_report.specs.JsonLine.{json_line}
use Rattle.pdb_symbols_modules.specs.Streams.{Streams}

-- the order in which section contributions have to stand, by whether they may in any
abbrev pub order_if : Bool → ContributionOrder
order_if true = Any
order_if false = InOrder

-- the order in which they have to stand for a task
abbrev pub order_of : Task → ContributionOrder
order_of (Frames file demangle any_order json) = order_if any_order
order_of (Sizes file start end by_file demangle any_order) = order_if any_order

-- This is said of the report on a range: of the one by source file, or of the one by function.
-- Section contributions have to stand in this order.
abbrev pub OnRangeReport : Bool → ContributionOrder → Streams → ℕ → ℕ → (List ℕ → Type 0)
    → Type 0
OnRangeReport true order s start end P =
    (text : List ℕ) × IsSizesByFileWith order s start end text × P text
OnRangeReport false order s start end P =
    (text : List ℕ) × IsSizesReportWith order s start end text × P text

-- the text for a line, by whether it is JSON
abbrev pub line_if : Bool → LineText
line_if true = json_line
line_if false = line_text

-- This is said of the report that a task asks for: the report on the lines of the input, where the
-- input is known, or the report on the range from START to END.
abbrev pub OnReport : Task → Streams → Option (List ℕ) → (List ℕ → Type 0) → Type 0
OnReport (Frames file demangle any_order json) s input P =
    IfSome input (λ lines. P (report (line_if json (answer_with (order_if any_order) s)) lines))
OnReport (Sizes file start end by_file demangle any_order) s input P =
    OnRangeReport by_file (order_if any_order) s start end P

-- a task has a range, which is reversed
abbrev pub IsReversed : Task → Type 0
IsReversed (Frames file demangle any_order json) = ⊥
IsReversed (Sizes file start end by_file demangle any_order) = end < start

-- a task has no range, or one that isn't reversed
abbrev pub IsInOrder : Task → Type 0
IsInOrder (Frames file demangle any_order json) = Unit {0}
IsInOrder (Sizes file start end by_file demangle any_order) = start ≤ end
