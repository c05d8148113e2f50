-- Rows: the row that begins at an entry, and the distance from there to the marks after it. The
-- rule that a row goes on to the next entry or its subsection's end is the pdb crate's, too.
use Rattle.std.specs.Prelude.{◌≡◌, Result, Ok, Err, ℕ, ◌-◌, ◌^◌, ◌&&◌, Bool, true, false, List, []}
use Rattle.std.specs.Prelude.{drop, take}
use Rattle.std.specs.Prelude.{◌∷◌, nat_lt, nat_le, ◌==◌, min, if◌then◌else◌, Option, Some, None}
use Rattle.pdb_container.specs.declared.error.Error.{Error}
use Rattle.pdb_container.specs.Fault.{Fault, fault_of, IsOfBytes}
use Rattle.pdb_container.specs.Listing.{Listing, ending, before}
use Rattle.pdb_addresses.specs.declared.internal_section_offset.PdbInternalSectionOffset.{
  PdbInternalSectionOffset,
}
use Rattle.pdb_subsections.specs.declared.line_info.LineInfo.{LineInfo}
use Rattle.pdb_lines.specs.declared.line_mark.LineMark.{LineMark}
use Rattle.pdb_lines.specs.declared.line_mark.LineMark.TheVariants as marks
use Rattle.pdb_lines.specs.LinesSubsections.{LinesSubsection, Program, rank, place_rank}
use Rattle.pdb_lines.specs.LineMarks.{marks_of}

-- the distance from a place to another: none in another section, none backward, and none past 32
-- bits
abbrev pub distance_to : PdbInternalSectionOffset → ℕ → ℕ → Option ℕ
distance_to from section place =
    if section == from.section
    && (nat_le from.offset place && nat_lt (place - from.offset) (2 ^ 32))
    then Some (place - from.offset)
    else None

-- the distance from a place to a mark: an entry, or the end of a subsection
abbrev pub distance_to_mark : PdbInternalSectionOffset → LineMark → Option ℕ
distance_to_mark from (marks.Entry section place row) = distance_to from section place
distance_to_mark from (marks.End section place) = distance_to from section place

-- the lesser one of two distances that may be there
abbrev pub closer : Option ℕ → Option ℕ → Option ℕ
closer None b = b
closer (Some a) None = Some a
closer (Some a) (Some b) = Some (min a b)

-- the least distance from a place to the marks up to the next entry, which counts
abbrev pub nearest : PdbInternalSectionOffset → List LineMark → Option ℕ
nearest from [] = None
nearest from (marks.Entry section place row ∷ others) = distance_to from section place
nearest from (marks.End section place ∷ others) =
    closer (distance_to from section place) (nearest from others)

-- Whether the marks up to the next entry are known. They aren't where a fault comes before it.
abbrev pub is_decided : List LineMark → Option Fault → Bool
is_decided [] None = true
is_decided [] (Some e) = false
is_decided (marks.Entry section place row ∷ others) end = true
is_decided (marks.End section place ∷ others) end = is_decided others end

-- a row with another length
abbrev pub with_length : LineInfo → Option ℕ → LineInfo
with_length row length = record {
  offset = row.offset;
  length = length;
  file_index = row.file_index;
  line_start = row.line_start;
  line_end = row.line_end;
  column_start = row.column_start;
  column_end = row.column_end;
  kind = row.kind;
}

-- A row that may have begun, by the marks after it: it has the least distance to them as its
-- length. There is no row where the marks aren't known.
abbrev pub row_before : Option LineInfo → Listing LineMark → Option LineInfo
row_before None others = None
row_before (Some row) others =
    if is_decided others.items others.fault
    then Some (with_length row (closer row.length (nearest row.offset others.items)))
    else None

-- a row that may be there before others
abbrev pub with_row : Option LineInfo → Listing LineInfo → Listing LineInfo
with_row None rows = rows
with_row (Some row) rows = before row rows

-- the rows that begin at these marks, before an end
abbrev pub rows_among : List LineMark → Option Fault → Listing LineInfo
rows_among [] end = ending end
rows_among (marks.Entry section place row ∷ others) end =
    with_row (row_before row record { items = others; fault = end }) (rows_among others end)
rows_among (marks.End section place ∷ others) end = rows_among others end

-- the rows that begin at marks
abbrev pub rows_of : Listing LineMark → Listing LineInfo
rows_of l = rows_among l.items l.fault

-- a row that has begun, if there is one, and the rows that begin at marks
abbrev pub rows_with_begun : Option LineInfo → Listing LineMark → Listing LineInfo
rows_with_begun row l = with_row (row_before row l) (rows_of l)

-- A row of those that were still to come, with the row that has begun after it; or the end of the
-- rows, or their fault.
abbrev pub GivesRow : Listing LineInfo → Result (Option LineInfo × Option LineInfo) Error
    → Listing LineMark → Type 0
GivesRow old (Ok (Some row, begun)) marks = old ≡ before row (rows_with_begun begun marks)
GivesRow old (Ok (None, begun)) marks = (old ≡ ending None)
    × (rows_with_begun begun marks ≡ ending None)
GivesRow old (Err e) marks = IsOfBytes e × (old ≡ ending (Some (fault_of e)))
    × (marks ≡ ending None)

-- the rows of a module
abbrev pub line_rows : Program → Listing LineInfo
line_rows p = rows_of (marks_of p.subsections)

-- a subsection that may be there after others, or else a subsection before it
abbrev pub or_before : Option LinesSubsection → Option LinesSubsection → Option LinesSubsection
or_before (Some later) earlier = Some later
or_before None earlier = earlier

-- the last subsection at or before a place
abbrev pub last_subsection_at : ℕ → List LinesSubsection → Option LinesSubsection
last_subsection_at at [] = None
last_subsection_at at (subsection ∷ subsections) =
    or_before (last_subsection_at at subsections)
    (if nat_le (rank subsection) at then Some subsection else None)

-- a subsection that may be there, where it is in a section
abbrev pub subsection_in_section : ℕ → Option LinesSubsection → List LinesSubsection
subsection_in_section section None = []
subsection_in_section section (Some subsection) =
    if subsection.section == section then subsection ∷ []
    else []

-- the subsection of a place: the last one at or before it, in its section
abbrev pub subsections_for : Program → PdbInternalSectionOffset → List LinesSubsection
subsections_for p place = subsection_in_section place.section
    (last_subsection_at (place_rank place.section place.offset) p.subsections)

-- the subsection with that number, where subsections are counted from 1 in their order; none for 0
abbrev pub subsection_numbered : Program → ℕ → List LinesSubsection
subsection_numbered p number = drop (number - 1) (take number p.subsections)

-- the rows of a place's subsection alone
abbrev pub lines_for : Program → PdbInternalSectionOffset → Listing LineInfo
lines_for p place = rows_of (marks_of (subsections_for p place))
