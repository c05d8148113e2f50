-- Line marks: places where entries of lines begin, and places where subsections end. The layout is
-- that of CV_DebugSLinesFileBlockHeader_t, CV_Line_t and CV_Column_t in microsoft-pdb's cvinfo.h.
use Rattle.std.specs.Prelude.{◌≡◌, ℕ, ◌+◌, ◌*◌, ◌-◌, ◌^◌, ◌%◌, ◌&&◌, ◌||◌, not, Bool, true, false}
use Rattle.std.specs.Prelude.{List, [], ◌∷◌, ◌++◌, map, nat_lt, ◌==◌, if◌then◌else◌, Option, Some}
use Rattle.std.specs.Prelude.{None, Result, Ok}
use Rattle.std.specs.Int.{w32}
use Rattle.std.specs.List.{range_with_len, flat_map}
use Rattle.pdb_container.specs.Container.{half_at, word_at}
use Rattle.pdb_container.specs.Fault.{Fault, UnexpectedEof, ◌>>=◌, refuse}
use Rattle.pdb_container.specs.Fields.{Reader, number_at, bytes_of}
use Rattle.pdb_container.specs.Listing.{Listing, ending, before, listing}
use Rattle.pdb_subsections.specs.declared.line_info.LineInfo.{LineInfo}
use Rattle.pdb_subsections.specs.declared.line_info.LineInfoKind.{LineInfoKind}
use Rattle.pdb_subsections.specs.declared.line_info.LineInfoKind.TheVariants as kinds
use Rattle.pdb_lines.specs.declared.line_mark.LineMark.{LineMark}
use Rattle.pdb_lines.specs.declared.line_mark.LineMark.TheVariants as marks
use Rattle.pdb_lines.specs.LinesSubsections.{LinesSubsection}

-- ---- blocks

-- a lines block, the entries of one file: the place at which their subsection begins, their number,
-- the bytes of their places and lines, and of their columns
pub record LinesBlock : Type 0 where
  pub section : ℕ
  pub offset : ℕ
  pub file : ℕ
  pub count : ℕ
  pub lines : List ℕ
  pub columns : Option (List ℕ)

-- the bytes of the columns of that many entries, if the subsection has columns
abbrev pub columns_of : Bool → ℕ → List ℕ → Result (Option (List ℕ)) Fault
columns_of false count bytes = Ok None
columns_of true count bytes = bytes_of (4 * count) bytes >>= λ columns. Ok (Some columns.0)

-- the block of a subsection of a file and that many entries: 8 bytes each, and then 4 each for
-- their columns
unfoldable pub block_in : LinesSubsection → ℕ → ℕ → List ℕ → Result LinesBlock Fault
block_in subsection file count bytes = do
  lines ← bytes_of (8 * count) bytes
  columns ← columns_of subsection.has_columns count lines.1
  Ok record {
    section = subsection.section;
    offset = subsection.offset;
    file = file;
    count = count;
    lines = lines.0;
    columns = columns;
  }

-- A block of a subsection: a file, a number of entries, a size, and the bytes missing to that size,
-- the 12 before it counted. The bytes after its entries are passed over.
unfoldable pub block_at : LinesSubsection → Reader LinesBlock
block_at subsection bytes = do
  file ← number_at w32 bytes
  count ← number_at w32 file.1
  size ← number_at w32 count.1
  enough ← refuse (nat_lt size.0 12) UnexpectedEof
  content ← bytes_of (size.0 - 12) size.1
  block ← block_in subsection file.0 count.0 content.0
  Ok (block, content.1)

-- ---- entries

-- the column at a place, if the subsection has columns
abbrev pub column_at : Option (List ℕ) → ℕ → Option ℕ
column_at None at = None
column_at (Some bytes) at = Some (half_at bytes at)

-- whether a number is that of a line, which two numbers aren't
abbrev pub is_line : ℕ → Bool
is_line line = not (line == 0xfeefee || line == 0xf00f00)

-- the kind of a row: an expression where bit 31 of its flags isn't set, otherwise a statement
abbrev pub line_kind : ℕ → LineInfoKind
line_kind flags = if nat_lt flags (2 ^ 31) then kinds.Expression else kinds.Statement

-- the row that begins at a place, before its length is known: by the numbers of its line and kind,
-- its file and its columns
abbrev pub row_with : ℕ → ℕ → ℕ → ℕ → Option ℕ → Option ℕ → LineInfo
row_with section offset flags file start end = record {
  offset = record { offset = offset; section = section };
  length = None;
  file_index = record { 0 = file };
  line_start = flags % 2 ^ 24;
  line_end = flags % 2 ^ 24;
  column_start = start;
  column_end = end;
  kind = line_kind flags;
}

-- the place of entry i, which may lie past 32 bits
abbrev pub entry_place : LinesBlock → ℕ → ℕ
entry_place b i = b.offset + word_at b.lines (8 * i)

-- the line and kind of entry i
abbrev pub entry_flags : LinesBlock → ℕ → ℕ
entry_flags b i = word_at b.lines (8 * i + 4)

-- the row that entry i begins: none past 32 bits, and none without a line
abbrev pub entry_row : LinesBlock → ℕ → Option LineInfo
entry_row b i =
    if nat_lt (entry_place b i) (2 ^ 32) && is_line (entry_flags b i % 2 ^ 24)
    then Some (row_with b.section (entry_place b i) (entry_flags b i) b.file
    (column_at b.columns (4 * i)) (column_at b.columns (4 * i + 2)))
    else None

-- the mark of entry i
abbrev pub entry_mark : LinesBlock → ℕ → LineMark
entry_mark b i = marks.Entry b.section (entry_place b i) (entry_row b i)

-- the marks of a block's entries from number i on
abbrev pub entries_from : LinesBlock → ℕ → List LineMark
entries_from b i = map (entry_mark b) (range_with_len i (b.count - i))

-- the marks of a block's entries
abbrev pub entries_of : LinesBlock → List LineMark
entries_of b = entries_from b 0

-- ---- subsections

-- values before others, where they end well
abbrev pub chained : {A : Type 0} → List A → Option Fault → Listing A → Listing A
chained items None others = record { items = items ++ others.items; fault = others.fault }
chained items (Some e) others = record { items = items; fault = Some e }

-- the blocks of a subsection in these bytes
abbrev pub blocks_of : LinesSubsection → List ℕ → Listing LinesBlock
blocks_of subsection bytes = listing (block_at subsection) bytes

-- the marks of blocks, before others
abbrev pub marks_before : Listing LinesBlock → Listing LineMark → Listing LineMark
marks_before blocks others = chained (flat_map entries_of blocks.items) blocks.fault others

-- the end of a subsection, which may lie past 32 bits
abbrev pub end_mark : LinesSubsection → LineMark
end_mark subsection = marks.End subsection.section (subsection.offset + subsection.size)

-- the marks of subsections: of each one its entries, in the order of the file, and then its end
abbrev pub marks_of : List LinesSubsection → Listing LineMark
marks_of [] = ending None
marks_of (subsection ∷ subsections) = marks_before (blocks_of subsection subsection.blocks)
    (before (end_mark subsection) (marks_of subsections))

-- the marks of these entries, then of the blocks in these bytes, which are the first subsection's,
-- and then of the other subsections
abbrev pub marks_left : List LineMark → List ℕ → List LinesSubsection → Listing LineMark
marks_left entries blocks [] = chained entries None (ending None)
marks_left entries blocks (subsection ∷ subsections) =
    chained entries None
    (marks_before (blocks_of subsection blocks)
    (before (end_mark subsection) (marks_of subsections)))

-- The next entry's mark of those that were still to come, and the marks after it.
abbrev pub GivesMark : List LineMark → Option LineMark → List LineMark → Type 0
GivesMark old (Some mark) new = old ≡ mark ∷ new
GivesMark old None new = (old ≡ []) × (new ≡ [])
