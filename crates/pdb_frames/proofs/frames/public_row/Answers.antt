use Rattle.std.proofs.Common.{◌≡◌, List, Result, Ok, ap}
use Rattle.std.specs.Prelude.{Option}
use Rattle.pdb_container.specs.Fault.{Fault, ◌>>=◌}
use Rattle.pdb_addresses.specs.declared.internal_section_offset.PdbInternalSectionOffset.{PdbInternalSectionOffset}
use Rattle.pdb_lines.specs.LinesSubsections.{Program}
use Rattle.pdb_module_data.specs.declared.function_rows.LineRow.{LineRow}
use Rattle.pdb_module_data.specs.FunctionLine.{function_row, function_rows, row_at}
use Rattle.pdb_known_modules.specs.Seen.{extended_seen}
use Rattle.pdb_frames.proofs.frames.public_row.Goals as goal

abbrev row_in : PdbInternalSectionOffset → List LineRow → Result (Option LineRow) Fault
row_in place rows = Ok (row_at rows place.offset)

-- the row is that of the rows
row_is : (program : Program) (start place : PdbInternalSectionOffset) (rows : List LineRow) → function_rows program start ≡ Ok rows → function_row program start place ≡ row_in place rows
row_is program start place rows read = ap (λ r. r >>= row_in place) read

-- what is lent are the function's rows
pub returns-in-Some : goal.returns-in-Some
returns-in-Some g c =
    let extended = extended_seen c.args.extended.now in
    rw c.at.ensures (row_is extended.program c.args.start c.args.place c.in-Some.rows.now (c.in-Some.ensures extended c.requires))
