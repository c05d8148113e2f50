-- The search of a function's line rows: as they stand where they ascend, otherwise by pieces of
-- offsets with the number of the row at each, and by their starts in ascending order.
use Rattle.std.specs.Prelude.{◌≡◌, ℕ, ◌+◌, ◌^◌, ◌<◌, ◌≤◌, List, [], ◌∷◌, ◌++◌, slice_get}
use Rattle.std.specs.Prelude.{Option, None, Some, option_and_then}
use Rattle.std.specs.Box.{box_value}
use Rattle.std.specs.Global.{Box}
use Rattle.pdb_addresses.specs.SectionOrder.{AreInOrder}
use Rattle.pdb_pieces.specs.declared.span.Span.{Span}
use Rattle.pdb_pieces.specs.Spans.{best}
use Rattle.pdb_module_data.specs.declared.function_rows.LineRow.{LineRow}
use Rattle.pdb_module_data.specs.FunctionLine.{row_at, row_starts}

-- the span that a row covers: the offsets from its own on, of 32 bits; ranked by its own
abbrev pub row_span : ℕ → LineRow → Span
row_span number row = record {
  start = row.start;
  end = 2 ^ 32;
  mark = record { rank = row.start; value = number };
}

-- the spans that rows cover, of which the first has this number; the last row comes first, since of
-- equal ranks the first counts
abbrev pub row_spans : ℕ → List LineRow → List Span
row_spans number [] = []
row_spans number (row ∷ rows) = row_spans (number + 1) rows ++ row_span number row ∷ []

-- at each offset stands the number of the row there
pub record StandForRows (pieces : List Span) (rows : List LineRow) : Type 0 where
  pub each : (offset : ℕ) → offset < 2 ^ 32
      → option_and_then (λ m. slice_get rows m.value) (best pieces offset) ≡ row_at rows offset

-- rows in ascending order by their offsets, none before `low`
abbrev pub AreAscending : ℕ → List LineRow → Type 0
AreAscending low [] = Unit {0}
AreAscending low (row ∷ rows) = (low ≤ row.start) × AreAscending row.start rows

-- the search of rows that don't ascend: pieces, and the starts of rows in ascending order
pub record Unordered : Type 0 where
  pub pieces : List Span
  pub starts : List ℕ

-- the rows ascend, or else pieces and starts stand for them
abbrev pub AreSearchable : List LineRow → Option (Box Unordered) → Type 0
AreSearchable rows None = AreAscending 0 rows
AreSearchable rows (Some unordered) =
    StandForRows (box_value unordered).pieces rows
    × AreInOrder (row_starts rows) (box_value unordered).starts
