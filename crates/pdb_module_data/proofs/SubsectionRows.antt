-- The rows of a function are those of its subsection.
use Rattle.std.proofs.Common.{◌≡◌, ℕ, List, map, Result, Ok, ap}
use Rattle.pdb_container.specs.Fault.{Fault, ◌>>=◌}
use Rattle.pdb_container.specs.Listing.{whole}
use Rattle.pdb_addresses.specs.declared.internal_section_offset.PdbInternalSectionOffset.{
  PdbInternalSectionOffset,
}
use Rattle.pdb_lines.specs.LinesSubsections.{LinesSubsection, Program}
use Rattle.pdb_lines.specs.LineMarks.{marks_of}
use Rattle.pdb_lines.specs.LineRows.{rows_of, subsection_numbered, subsections_for}
use Rattle.pdb_module_data.specs.declared.function_rows.LineRow.{LineRow}
use Rattle.pdb_module_data.specs.FunctionLine.{row_of, function_rows, numbered_rows}

abbrev rows_in : List LinesSubsection → Result (List LineRow) Fault
rows_in subsections =
    whole (rows_of (marks_of subsections)) >>= λ rows. Ok (map row_of rows)

pub same_rows : (program : Program) (start : PdbInternalSectionOffset) (number : ℕ)
    → subsection_numbered program number ≡ subsections_for program start
    → numbered_rows program number ≡ function_rows program start
same_rows program start number same = ap rows_in same
