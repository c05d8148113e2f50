-- Runs of files: the key of the file at a place in a chosen function, and how far it goes on.
use Rattle.std.specs.Prelude.{ℕ, List, Option, None, Some, Result, Ok, Err}
use Rattle.pdb_addresses.specs.SectionRun.{up_to_next}
use Rattle.pdb_addresses.specs.declared.internal_section_offset.PdbInternalSectionOffset.{
  PdbInternalSectionOffset,
}
use Rattle.pdb_frames.specs.Choice.{Parts, Chosen, Proc, Public, chosen, start_address}
use Rattle.pdb_container.specs.Fault.{◌>>=◌}
use Rattle.pdb_contributions.specs.declared.contribution.ModuleSectionContribution.{
  ModuleSectionContribution,
}
use Rattle.pdb_frames.specs.Files.{row_key}
use Rattle.pdb_frames.specs.Scopes.{Scope}
use Rattle.pdb_owners.specs.declared.file_key.FileKey.{FileKey}
use Rattle.pdb_owners.specs.declared.file_key.FileKey.TheVariants as keys
use Rattle.pdb_known_modules.specs.KnownModules.{ModuleData, extended_of, extended_procedure_of}
use Rattle.pdb_known_modules.specs.KnownModules.{module_data, procedures_in}
use Rattle.pdb_lines.specs.LinesSubsections.{Program}
use Rattle.pdb_module_data.specs.FunctionLine.{function_rows, row_at, row_starts}
use Rattle.pdb_module_data.specs.declared.function_rows.LineRow.{LineRow}
use Rattle.pdb_resolving.specs.Fault.{Fault, lifted}
use Rattle.pdb_symbols_modules.specs.ModuleStream.{ModuleStream}

-- ---- in a chosen function

-- the line rows of a chosen function, where a procedure's sites can be read, too
abbrev pub rows_in : ModuleStream → Program → Chosen → Result (List LineRow) Fault
rows_in stream program (Proc q) = extended_procedure_of stream program q >>= λ read. Ok read.0
rows_in stream program (Public f) = lifted (function_rows program f.start_offset)

-- the key of the file at a place, from the rows of its function, and the lesser of a number and the
-- distance to the next row
abbrev pub run_by_rows : Program → PdbInternalSectionOffset → ℕ → List LineRow → FileKey × ℕ
run_by_rows program place far rows =
    (row_key program (row_at rows place.offset), up_to_next (row_starts rows) place.offset far)

-- such a run from the reading of the rows, which may be a fault
abbrev pub run_if_read : Program → PdbInternalSectionOffset → ℕ → Result (List LineRow) Fault
    → Result (FileKey × ℕ) Fault
run_if_read program place far rows = rows >>= λ rows. Ok (run_by_rows program place far rows)

-- such a run from the module's stream: line program and inlinees are read before the rows
unfoldable pub file_run_in :
    ModuleStream → Chosen → PdbInternalSectionOffset → ℕ → Result (FileKey × ℕ) Fault
file_run_in stream c place far = do
  extended ← lifted (extended_of stream)
  run_if_read extended.program place far (rows_in stream extended.program c)

-- such a run from the module's data; without data no file is known
abbrev pub file_run_of :
    Option ModuleData → Chosen → PdbInternalSectionOffset → ℕ → Result (FileKey × ℕ) Fault
file_run_of None c place far = Ok (keys.NoFile, far)
file_run_of (Some known) c place far = file_run_in known.stream c place far

-- ---- at a place

-- a run in a function that begins at an image address; nothing where it has no such address
abbrev pub run_if_addressed : Option ℕ → ℕ → FileKey × ℕ → Option FileKey × ℕ
run_if_addressed None far run = (None, far)
run_if_addressed (Some start) far run = (Some run.0, run.1)

-- such a run, which may be a fault: then the file is unreadable up to the next bound
abbrev pub run_reported : Option ℕ → ℕ → Result (FileKey × ℕ) Fault → Option FileKey × ℕ
run_reported start far (Err e) = (Some keys.Unreadable, far)
run_reported start far (Ok run) = run_if_addressed start far run

-- the run in the function that may be chosen: without one nothing, up to the next bound
abbrev pub file_run_if_chosen :
    Parts → Option ModuleData → PdbInternalSectionOffset → ℕ → Option Chosen → Option FileKey × ℕ
file_run_if_chosen p known place far None = (None, far)
file_run_if_chosen p known place far (Some c) =
    run_reported (start_address p c) far (file_run_of known c place far)

-- the run in the module of a contribution, at a place that it holds, with so many bytes to the
-- next bound
abbrev pub file_run_at :
    Parts → Scope → ModuleSectionContribution → PdbInternalSectionOffset → ℕ → Option FileKey × ℕ
file_run_at p s c place far =
    let known = module_data s.own in
    file_run_if_chosen p known place far (chosen p (procedures_in known) c place)
