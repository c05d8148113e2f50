-- The line of a place in a function, and the names of source files.
-- The rule that a function's lines are those of the last subsection at or before its start is the
-- pdb crate's.
use Rattle.std.specs.Prelude.{ℕ, List, [], ◌∷◌, map, nat_le, nat_lt, Option, None, Some}
use Rattle.std.specs.Prelude.{if◌then◌else◌, Result, Ok, Err}
use Rattle.pdb_container.specs.Fault.{Fault, ◌>>=◌}
use Rattle.pdb_container.specs.Listing.{whole}
use Rattle.pdb_container.specs.StringTable.{text_in}
use Rattle.pdb_addresses.specs.declared.internal_section_offset.PdbInternalSectionOffset.{
  PdbInternalSectionOffset,
}
use Rattle.pdb_subsections.specs.declared.line_info.LineInfo.{LineInfo}
use Rattle.pdb_lines.specs.Checksums.{file_in}
use Rattle.pdb_lines.specs.LinesSubsections.{Program}
use Rattle.pdb_lines.specs.LineMarks.{marks_of}
use Rattle.pdb_lines.specs.LineRows.{lines_for, rows_of, subsection_numbered}
use Rattle.pdb_module_data.specs.declared.function_rows.LineRow.{LineRow}

-- the stored row: all that an answer needs
abbrev pub row_of : LineInfo → LineRow
row_of row = record {
  start = (row.offset).offset;
  length = row.length;
  file_index = row.file_index;
  line_start = row.line_start;
}

-- the row with the greater start, of equals the later one
abbrev pub later_row : Option LineRow → Option LineRow → Option LineRow
later_row a None = a
later_row None (Some b) = Some b
later_row (Some a) (Some b) = if nat_lt b.start a.start then Some a else Some b

-- a row, if it begins at an offset or before it
abbrev pub if_begun : LineRow → ℕ → Option LineRow
if_begun row offset = if nat_le row.start offset then Some row else None

-- the row with the greatest start among those that begin at an offset or before it, of equals the
-- last
abbrev pub row_at : List LineRow → ℕ → Option LineRow
row_at [] offset = None
row_at (row ∷ rows) offset = later_row (if_begun row offset) (row_at rows offset)

-- the rows of the function that begins at a place: those of its subsection, which have to be there
-- to their end
abbrev pub function_rows : Program → PdbInternalSectionOffset → Result (List LineRow) Fault
function_rows program start = whole (lines_for program start) >>= λ rows. Ok (map row_of rows)

-- the rows of the subsection with that number, which have to be there to their end; none for 0
abbrev pub numbered_rows : Program → ℕ → Result (List LineRow) Fault
numbered_rows program number =
    whole (rows_of (marks_of (subsection_numbered program number))) >>= λ rows.
    Ok (map row_of rows)

-- the starts of rows
abbrev pub row_starts : List LineRow → List ℕ
row_starts rows = map (λ row. row.start) rows

-- the row of a place in the function that begins at another place, among that function's rows
abbrev pub function_row : Program → PdbInternalSectionOffset → PdbInternalSectionOffset
    → Result (Option LineRow) Fault
function_row program start place =
    function_rows program start >>= λ rows. Ok (row_at rows place.offset)

-- the value that was read, if it could be
abbrev pub if_read : {A : Type 0} → Result A Fault → Option A
if_read (Ok x) = Some x
if_read (Err e) = None

-- the name of a source file as text: that of its entry among the checksums, in the string table;
-- none where there is no string table, no entry or no name
abbrev pub file_text : Program → Option (List ℕ) → ℕ → Option (List ℕ)
file_text program None index = None
file_text program (Some strings) index =
    if_read (file_in program.files index >>= λ file. text_in strings file.name)
