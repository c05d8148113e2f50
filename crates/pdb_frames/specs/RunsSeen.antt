-- The distance over which files and frames go on over a stretch of a chosen function.
use Rattle.std.specs.Prelude.{◌≡◌, ℕ, List, Option, Result}
use Rattle.pdb_addresses.specs.SectionRun.{up_to_next}
use Rattle.pdb_addresses.specs.declared.internal_section_offset.PdbInternalSectionOffset.{
  PdbInternalSectionOffset,
}
use Rattle.pdb_frames.specs.Choice.{Chosen}
use Rattle.pdb_frames.specs.FileRuns.{file_run_in, file_run_of, rows_in, run_if_read}
use Rattle.pdb_frames.specs.FrameRuns.{chosen_cuts, count_if_read, count_in, cuts_in_stream}
use Rattle.pdb_frames.specs.FrameRuns.{public_cuts}
use Rattle.pdb_frames.specs.declared.file_runs.Stretch.{Stretch}
use Rattle.pdb_known_modules.specs.KnownModules.{ModuleData}
use Rattle.pdb_known_modules.specs.Seen.{extended_seen}
use Rattle.pdb_known_modules.specs.declared.modules.ExtendedModuleInfo.{ExtendedModuleInfo}
use Rattle.pdb_module_data.specs.FunctionLine.{function_rows}
use Rattle.pdb_owners.specs.declared.file_key.FileKey.{FileKey}
use Rattle.pdb_resolving.specs.Fault.{Answers, lifted}
use Rattle.pdb_resolving.specs.declared.error.Error.{Error}

-- ---- files: the key of the file where the stretch begins, and how far it goes on there

-- a call gave key and distance from the rows of a chosen function, with what was read of its module
abbrev pub RunsByRows : ModuleData → ExtendedModuleInfo → Chosen → Stretch
    → Result (FileKey × ℕ) Error → Type 0
RunsByRows known extended c s result =
    let program = (extended_seen extended).program in
    Answers (λ run. run) result (run_if_read program s.place s.far
    (rows_in known.stream program c))

-- the same from the rows of the function of a public entry that begins at a place
abbrev pub RunsByPublicRows : ExtendedModuleInfo → PdbInternalSectionOffset → Stretch
    → Result (FileKey × ℕ) Error → Type 0
RunsByPublicRows extended start s result =
    let program = (extended_seen extended).program in
    Answers (λ run. run) result (run_if_read program s.place s.far
    (lifted (function_rows program start)))

-- the same from a module's data: line program and inlinees are read before the rows
abbrev pub RunsInData : ModuleData → Chosen → Stretch → Result (FileKey × ℕ) Error → Type 0
RunsInData known c s result =
    Answers (λ run. run) result (file_run_in known.stream c s.place s.far)

-- the same where the module may have no data
abbrev pub RunsIn : Option ModuleData → Chosen → Stretch → Result (FileKey × ℕ) Error → Type 0
RunsIn known c s result = Answers (λ run. run) result (file_run_of known c s.place s.far)

-- ---- frames: how far they go on from where the stretch begins, at most to its end

-- a number is the distance to the next of places at which frames may change
abbrev pub IsNextCut : List ℕ → Stretch → ℕ → Type 0
IsNextCut cuts s n = n ≡ up_to_next cuts s.place.offset s.far

-- a call gave the distance from the rows and sites of a chosen function, with what was read of its
-- module
abbrev pub ReachesByRows : ModuleData → ExtendedModuleInfo → Chosen → Stretch → Result ℕ Error
    → Type 0
ReachesByRows known extended c s result =
    Answers (λ n. n) result (count_if_read
    (chosen_cuts known.stream (extended_seen extended) c) s.place.offset s.far)

-- the same from the rows of the function of a public entry that begins at a place
abbrev pub ReachesByPublicRows : ExtendedModuleInfo → PdbInternalSectionOffset → Stretch
    → Result ℕ Error → Type 0
ReachesByPublicRows extended start s result =
    Answers (λ n. n) result (count_if_read
    (public_cuts (extended_seen extended).program start) s.place.offset s.far)

-- the same from a module's data: line program and inlinees are read before the rows
abbrev pub ReachesInData : ModuleData → Chosen → Stretch → Result ℕ Error → Type 0
ReachesInData known c s result =
    Answers (λ n. n) result (count_if_read (cuts_in_stream known.stream c) s.place.offset s.far)

-- the same where the module may have no data
abbrev pub ReachesIn : Option ModuleData → Chosen → Stretch → Result ℕ Error → Type 0
ReachesIn known c s result = Answers (λ n. n) result (count_in known c s.place s.far)
