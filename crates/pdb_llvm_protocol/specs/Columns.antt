-- Columns of lines, and the column of a place in a function.
use Rattle.std.specs.Prelude.{ℕ, ◌&&◌, Bool, true, false, List, [], ◌∷◌, nat_le}
use Rattle.std.specs.Prelude.{if◌then◌else◌, Option, Some, None, Result, Ok, ◌≡◌, option_map}
use Rattle.std.specs.List.{list_any}
use Rattle.pdb_container.specs.Fault.{Fault, ◌>>=◌}
use Rattle.pdb_container.specs.Listing.{Listing, whole}
use Rattle.pdb_addresses.specs.declared.internal_section_offset.PdbInternalSectionOffset.{
  PdbInternalSectionOffset,
}
use Rattle.pdb_subsections.specs.declared.line_info.LineInfo.{LineInfo}
use Rattle.pdb_lines.specs.LinesSubsections.{Program}
use Rattle.pdb_lines.specs.LineRows.{line_rows, lines_for}
use Rattle.pdb_module_data.specs.FunctionLine.{function_row, row_of}

-- whether a column is there
abbrev pub is_there : Option ℕ → Bool
is_there None = false
is_there (Some column) = true

-- whether a row has a column
abbrev pub has_column : LineInfo → Bool
has_column row = is_there row.column_start

-- whether a row of a module has a column; where its rows end with a fault, one before that
abbrev pub has_columns : Program → Bool
has_columns p = list_any has_column (line_rows p).items

-- whether a row begins at an offset or before it, and not before the one that was found so far
abbrev pub is_later : ℕ → Option LineInfo → LineInfo → Bool
is_later offset None row = nat_le (row.offset).offset offset
is_later offset (Some found) row =
    nat_le (row.offset).offset offset && nat_le (found.offset).offset (row.offset).offset

-- the row that was found, or a later one
abbrev pub found_with : ℕ → Option LineInfo → LineInfo → Option LineInfo
found_with offset found row = if is_later offset found row then Some row else found

-- The row with the greatest start, of equals the last, of the rows that begin at an offset or
-- before it, where one was found before them.
abbrev pub found_among : ℕ → Option LineInfo → List LineInfo → Option LineInfo
found_among offset found [] = found
found_among offset found (row ∷ rows) = found_among offset (found_with offset found row) rows

-- the first column of a row that may be there
abbrev pub column_of : Option LineInfo → Option ℕ
column_of None = None
column_of (Some row) = row.column_start

-- the column from rows that have to be there to their end, where a row was found before them
abbrev pub column_onto : ℕ → Option LineInfo → Listing LineInfo → Result (Option ℕ) Fault
column_onto offset found left =
    whole left >>= λ rows. Ok (column_of (found_among offset found rows))

-- The column of an offset in the function that begins at a place: the column of the row that gives
-- its line.
abbrev pub column_for : Program → PdbInternalSectionOffset → ℕ → Result (Option ℕ) Fault
column_for p start offset = column_onto offset None (lines_for p start)

-- A column is the column of the row that gives the line of an offset in the function that begins at
-- a place.
pub record IsOfLine (p : Program) (start : PdbInternalSectionOffset) (offset : ℕ)
    (column : Option ℕ) : Type 0 where
  pub row : Option LineInfo
  pub gives_line : function_row p start (record { offset = offset; section = start.section })
      ≡ Ok (option_map row_of row)
  pub has_column : column ≡ column_of row
