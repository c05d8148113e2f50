-- Lines subsections (DEBUG_S_LINES): their headers, and their order.
-- The layout is that of CV_DebugSLinesHeader_t in microsoft-pdb's cvinfo.h.
use Rattle.std.specs.Prelude.{ℕ, ◌+◌, ◌*◌, ◌^◌, ◌%◌, Bool, List, [], ◌∷◌, ◌==◌}
use Rattle.std.specs.Prelude.{if◌then◌else◌, Option, Some, None, Result, Ok, Err}
use Rattle.std.specs.declared.cmp.Ordering.{Ordering}
use Rattle.std.specs.Int.{w16, w32}
use Rattle.std.specs.Ordering.{nat_cmp}
use Rattle.pdb_container.specs.Fault.{Fault, ◌>>=◌}
use Rattle.pdb_container.specs.Fields.{number_at}
use Rattle.pdb_container.specs.Listing.{Listing}
use Rattle.pdb_addresses.specs.InOrder.{in_order}
use Rattle.pdb_subsections.specs.Subsections.{lines_kind, files_kind, Subsection, subsections_of}
use Rattle.pdb_subsections.specs.Subsections.{first_of}

-- a lines subsection: the place at which its code begins, the number of bytes of its code, whether
-- it has columns, and the bytes of its blocks
pub record LinesSubsection : Type 0 where
  pub section : ℕ
  pub offset : ℕ
  pub size : ℕ
  pub has_columns : Bool
  pub blocks : List ℕ

-- the header of a lines subsection, and its blocks
unfoldable pub lines_subsection_of : List ℕ → Result LinesSubsection Fault
lines_subsection_of bytes = do
  offset ← number_at w32 bytes
  section ← number_at w16 offset.1
  flags ← number_at w16 section.1
  size ← number_at w32 flags.1
  Ok record {
    section = section.0;
    offset = offset.0;
    size = size.0;
    has_columns = flags.0 % 2 == 1;
    blocks = size.1;
  }

-- the lines subsections among these, and then the end of all
abbrev pub lines_subsections_among : List Subsection → Option Fault
    → Result (List LinesSubsection) Fault
lines_subsections_among [] None = Ok []
lines_subsections_among [] (Some e) = Err e
lines_subsections_among (s ∷ others) end =
    if s.kind == lines_kind
    then (lines_subsection_of s.bytes >>= λ subsection.
    lines_subsections_among others end >>= λ subsections. Ok (subsection ∷ subsections))
    else lines_subsections_among others end

-- the lines subsections in the order of the file; the fault is the first of all subsections and of
-- all headers of lines
abbrev pub lines_subsections_of : Listing Subsection → Result (List LinesSubsection) Fault
lines_subsections_of l = lines_subsections_among l.items l.fault

-- a place as one number, by its section first
abbrev pub place_rank : ℕ → ℕ → ℕ
place_rank section offset = section * 2 ^ 32 + offset

-- the place at which a lines subsection begins, as one number
abbrev pub rank : LinesSubsection → ℕ
rank r = place_rank r.section r.offset

-- the order of lines subsections by section and offset
abbrev pub place_cmp : LinesSubsection → LinesSubsection → Ordering
place_cmp a b = nat_cmp (rank a) (rank b)

-- the subsections by section and offset; subsections that begin at one place stay in their order
abbrev pub sorted_subsections_of : Listing Subsection → Result (List LinesSubsection) Fault
sorted_subsections_of l = lines_subsections_of l
    >>= λ subsections. Ok (in_order place_cmp subsections)

-- the subsections of a module's line data in order, and the list of its files
pub record Program : Type 0 where
  pub subsections : List LinesSubsection
  pub files : List ℕ

-- bytes that may be there, or else none
abbrev pub or_nothing : Option (List ℕ) → List ℕ
or_nothing (Some bytes) = bytes
or_nothing None = []

-- the line program of a module's line data
unfoldable pub program_of : List ℕ → Result Program Fault
program_of bytes = do
  subsections ← sorted_subsections_of (subsections_of bytes)
  files ← first_of files_kind (subsections_of bytes)
  Ok record { subsections = subsections; files = or_nothing files }
