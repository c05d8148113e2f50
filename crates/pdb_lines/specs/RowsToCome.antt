-- The rows that are still to come, where one row's length may be open; and the state after an
-- annotation.
use Rattle.std.specs.Prelude.{ℕ, ◌+◌, ◌%◌, ◌^◌, List, [], ◌∷◌, ◌++◌, Option, None, Some, unwrap_or}
use Rattle.std.specs.Prelude.{option_map}
use Rattle.std.specs.Option.{option_or}
use Rattle.pdb_container.specs.Listing.{Listing}
use Rattle.pdb_symbol_records.specs.declared.annotation.BinaryAnnotation.{BinaryAnnotation}
use Rattle.pdb_subsections.specs.declared.line_info.LineInfo.{LineInfo}
use Rattle.pdb_lines.specs.declared.annotation_state.AnnotationState.{AnnotationState}
use Rattle.pdb_lines.specs.Operands.{code_offset, code_base, offset_change, changed_file}
use Rattle.pdb_lines.specs.Operands.{line_change, line_length, range_kind, first_column}
use Rattle.pdb_lines.specs.Operands.{last_column, column_change}
use Rattle.pdb_lines.specs.InlinedRows.{length_behind, rows_behind, before_fault}

-- a number moved on, modulo 2^32
abbrev pub moved_on : Option ℕ → ℕ → ℕ
moved_on None n = n
moved_on (Some change) n = (n + change) % 2 ^ 32

-- the state after an annotation
abbrev pub state_behind : AnnotationState → BinaryAnnotation → AnnotationState
state_behind o a = record {
  section = o.section;
  offset = moved_on (offset_change a) (unwrap_or (code_offset a) o.offset);
  base = unwrap_or (code_base a) o.base;
  file = unwrap_or (changed_file a) o.file;
  line = moved_on (line_change a) o.line;
  line_length = unwrap_or (line_length a) o.line_length;
  first_column = option_or (first_column a) o.first_column;
  last_column = option_map (moved_on (column_change a)) (option_or (last_column a) o.last_column);
  kind = unwrap_or (range_kind a) o.kind;
}

-- a row whose length may be open, and a length for it
abbrev pub completed : LineInfo → Option ℕ → LineInfo
completed row length = record row { length = option_or row.length length }

-- a row that waits for its length, with the length that the annotations after it give
unfoldable pub waiting : AnnotationState → Option LineInfo → List BinaryAnnotation → List LineInfo
waiting o None after = []
waiting o (Some row) after = completed row (length_behind o row.offset.offset row.kind [] after)
    ∷ []

-- the row that waits, and the rows of the annotations after it
abbrev pub rows_ahead : AnnotationState → Option LineInfo → List BinaryAnnotation → List LineInfo
rows_ahead o pending after = waiting o pending after ++ rows_behind o [] after

-- all rows that are still to come
unfoldable pub to_come : AnnotationState → Option LineInfo → Listing BinaryAnnotation
    → Listing LineInfo
to_come o pending l =
    record { items = before_fault l.fault (rows_ahead o pending l.items); fault = l.fault }

-- a row before others, if there is one
abbrev pub row_in_front : Option LineInfo → List LineInfo → List LineInfo
row_in_front None rows = rows
row_in_front (Some row) rows = row ∷ rows
