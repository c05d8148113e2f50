-- The rows of an inlined call: sums and last values of the annotations before a row, and lengths
-- from the annotations after it. The effect of each annotation on a row follows microsoft-pdb's
-- cvinfo.h (BinaryAnnotationOpcode) and the pdb crate.
use Rattle.std.specs.Prelude.{ℕ, ◌+◌, ◌-◌, ◌%◌, ◌^◌, Bool, true, false, ◌&&◌, nat_le, nat_lt, ◌==◌}
use Rattle.std.specs.Prelude.{List, [], ◌∷◌, ◌++◌, length, take, Option, None, Some, if◌then◌else◌}
use Rattle.std.specs.Prelude.{unwrap_or, option_map}
use Rattle.std.specs.Option.{option_or}
use Rattle.pdb_container.specs.Fault.{Fault}
use Rattle.pdb_container.specs.Listing.{Listing}
use Rattle.pdb_addresses.specs.Numbers.{distance}
use Rattle.pdb_addresses.specs.declared.internal_section_offset.PdbInternalSectionOffset.{
  PdbInternalSectionOffset,
}
use Rattle.pdb_symbol_records.specs.declared.annotation.BinaryAnnotation.{BinaryAnnotation}
use Rattle.pdb_symbol_records.specs.Annotations.{annotations_of, is_emitting}
use Rattle.pdb_subsections.specs.declared.line_info.LineInfo.{LineInfo}
use Rattle.pdb_subsections.specs.declared.line_info.LineInfoKind.{LineInfoKind}
use Rattle.pdb_subsections.specs.declared.line_info.LineInfoKind.TheVariants as made_of
use Rattle.pdb_lines.specs.declared.annotation_state.AnnotationState.{AnnotationState}
use Rattle.pdb_lines.specs.Inlinees.{InlinedFunction}
use Rattle.pdb_lines.specs.Operands.{last_given, behind_last, total, code_offset, code_base}
use Rattle.pdb_lines.specs.Operands.{offset_change, changed_file, line_change, line_length}
use Rattle.pdb_lines.specs.Operands.{range_kind, first_column, last_column, column_change}
use Rattle.pdb_lines.specs.Operands.{own_length, given_length}

-- the offset at which a row begins
unfoldable pub place_behind : AnnotationState → List BinaryAnnotation → ℕ
place_behind o before =
    (unwrap_or (last_given code_offset before) o.offset + total offset_change
    (behind_last code_offset before) + unwrap_or (last_given code_base before) o.base) % 2 ^ 32

-- the line at which a row begins, modulo 2^32
unfoldable pub line_behind : AnnotationState → List BinaryAnnotation → ℕ
line_behind o before = (o.line + total line_change before) % 2 ^ 32

-- the last line of a row, modulo 2^32
unfoldable pub last_line_behind : AnnotationState → List BinaryAnnotation → ℕ
last_line_behind o before =
    (line_behind o before + unwrap_or (last_given line_length before) o.line_length) % 2 ^ 32

-- the last column of a row, if one was given, modulo 2^32
unfoldable pub last_column_behind : AnnotationState → List BinaryAnnotation → Option ℕ
last_column_behind o before =
    option_map (λ column. (column + total column_change (behind_last last_column before)) % 2 ^ 32)
    (option_or (last_given last_column before) o.last_column)

-- the kind of a row: a statement or an expression
abbrev pub kind_behind : AnnotationState → List BinaryAnnotation → LineInfoKind
kind_behind o before = unwrap_or (last_given range_kind before) o.kind

-- the row that the annotations up to the row's own give
unfoldable pub row_behind : AnnotationState → List BinaryAnnotation → Option ℕ → LineInfo
row_behind o before length = record {
  offset = record { offset = place_behind o before; section = o.section };
  length = length;
  file_index = unwrap_or (last_given changed_file before) o.file;
  line_start = line_behind o before;
  line_end = last_line_behind o before;
  column_start = option_or (last_given first_column before) o.first_column;
  column_end = last_column_behind o before;
  kind = kind_behind o before;
}

-- whether both are of statements, or both of expressions
abbrev pub is_same_kind : LineInfoKind → LineInfoKind → Bool
is_same_kind made_of.Expression made_of.Expression = true
is_same_kind made_of.Statement made_of.Statement = true
is_same_kind a b = false

-- The length that an annotation gives a row that began before it and is of the kind in force: its
-- own operand, or the distance to the row that it gives.
unfoldable pub length_by : AnnotationState → ℕ → LineInfoKind → List BinaryAnnotation
    → BinaryAnnotation → Option ℕ
length_by o start kind before a =
    if is_same_kind kind (kind_behind o before)
    then option_or (given_length a)
    (if is_emitting a then distance start (place_behind o (before ++ a ∷ [])) else None)
    else None

-- the first length that annotations give such a row, up to the next annotation that gives a row,
-- which is counted among them
unfoldable pub length_behind : AnnotationState → ℕ → LineInfoKind → List BinaryAnnotation
    → List BinaryAnnotation → Option ℕ
length_behind o start kind before [] = None
length_behind o start kind before (a ∷ after) =
    option_or (length_by o start kind before a)
    (if is_emitting a then None else length_behind o start kind (before ++ a ∷ []) after)

-- the row of an annotation, the last of those up to it
unfoldable pub row_of : AnnotationState → List BinaryAnnotation → BinaryAnnotation
    → List BinaryAnnotation → LineInfo
row_of o here a after =
    row_behind o here
    (option_or (own_length a)
    (length_behind o (place_behind o here) (kind_behind o here) here after))

-- the rows of some annotations, after others
unfoldable pub rows_behind : AnnotationState → List BinaryAnnotation → List BinaryAnnotation
    → List LineInfo
rows_behind o before [] = []
rows_behind o before (a ∷ after) =
    if is_emitting a then row_of o (before ++ a ∷ []) a after
    ∷ rows_behind o (before ++ a ∷ []) after
    else rows_behind o (before ++ a ∷ []) after

-- rows without the last of them, if a fault follows them
abbrev pub before_fault : Option Fault → List LineInfo → List LineInfo
before_fault None rows = rows
before_fault (Some e) rows = take (length rows - 1) rows

-- the state before the first annotation: a place, a function's file and line, a last line after
-- that one, and no columns
abbrev pub initial_state : PdbInternalSectionOffset → InlinedFunction → AnnotationState
initial_state place function = record {
  section = place.section;
  offset = place.offset;
  base = 0;
  file = function.file;
  line = function.line;
  line_length = 1;
  first_column = None;
  last_column = None;
  kind = made_of.Statement;
}

-- the rows of annotations: all of them; or, where a fault ends the annotations, the rows that are
-- certain, and that fault
unfoldable pub all_rows : AnnotationState → Listing BinaryAnnotation → Listing LineInfo
all_rows o l = record { items = before_fault l.fault (rows_behind o [] l.items); fault = l.fault }

-- the rows of an inlined call of a function, from the place of the procedure around it
abbrev pub inlined_rows : PdbInternalSectionOffset → InlinedFunction → List ℕ → Listing LineInfo
inlined_rows place function bytes = all_rows (initial_state place function) (annotations_of bytes)

-- Whether a row covers a place: a row of positive length covers that many bytes from its start,
-- those below 2^32. Any other row covers nothing.
abbrev pub covers : LineInfo → PdbInternalSectionOffset → Bool
covers row p =
    row.offset.section == p.section && nat_le row.offset.offset p.offset
    && nat_lt p.offset (row.offset.offset + unwrap_or row.length 0) && nat_lt p.offset (2 ^ 32)
