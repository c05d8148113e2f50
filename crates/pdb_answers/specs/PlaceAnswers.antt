-- The answers of a symbolizer at places.
use Rattle.std.specs.Prelude.{◌≡◌, ℕ, Option, Some, Result, Ok, IfOk, option_and_then}
use Rattle.std.specs.Prelude.{option_copied}
use Rattle.pdb_addresses.specs.declared.internal_section_offset.PdbInternalSectionOffset.{
  PdbInternalSectionOffset,
}
use Rattle.pdb_addresses.specs.SectionRun.{up_to_next}
use Rattle.pdb_answers.specs.declared.frames.ChosenPlace.{ChosenPlace}
use Rattle.pdb_answers.specs.declared.known_failures.KnownFailures.{KnownFailures}
use Rattle.pdb_answers.specs.KnownFailures.{AreFailuresOf}
use Rattle.pdb_answers.specs.Symbolizers.{Symbolizer, scope_in}
use Rattle.pdb_contributions.specs.declared.contribution.ModuleSectionContribution.{
  ModuleSectionContribution,
}
use Rattle.pdb_frames.specs.Choice.{Chosen, Parts, chosen_in, held_at, start_address}
use Rattle.pdb_frames.specs.ChosenSeen.{chosen_seen}
use Rattle.pdb_frames.specs.declared.choice.Chosen as chosen
use Rattle.pdb_frames.specs.declared.file_runs.Stretch.{Stretch}
use Rattle.pdb_frames.specs.Env.{Env}
use Rattle.pdb_frames.specs.Failing.{Part}
use Rattle.pdb_frames.specs.Failing.{failing_at, failing_if_held}
use Rattle.pdb_frames.specs.FailingParts.{Failures, failed_after, failing_in, told}
use Rattle.pdb_frames.specs.FileRuns.{file_run_at, file_run_of, run_reported}
use Rattle.pdb_frames.specs.Files.{file_here, files_of}
use Rattle.pdb_frames.specs.FrameRuns.{cuts_in, frames_here, frames_of_places, frames_run_at}
use Rattle.pdb_frames.specs.FrameRuns.{readable, run_of_answer}
use Rattle.pdb_frames.specs.FramesAt.{frames_at, frames_if_held, frames_of_chosen, function_at}
use Rattle.pdb_frames.specs.FramesAt.{function_of}
use Rattle.pdb_frames.specs.Keys.{chosen_by, function_by}
use Rattle.pdb_frames.specs.NearBounds.{bounds_near}
use Rattle.pdb_frames.specs.Printing.{Formatting, env_of}
use Rattle.pdb_frames.specs.Runs.{database_of, function_here, procedures_of}
use Rattle.pdb_owners.specs.Databases.{Database, IsOneRun, place_of}
use Rattle.pdb_owners.specs.declared.file_key.FileKey.{FileKey}
use Rattle.pdb_owners.specs.declared.function_key.FunctionKey.{FunctionKey}
use Rattle.pdb_owners.specs.FileAnswers.{FileAnswer}
use Rattle.pdb_owners.specs.Frames.{FunctionFrames}
use Rattle.pdb_owners.specs.FunctionOrder.{Function}
use Rattle.pdb_known_modules.specs.KnownModules.{ModuleData, procedures_in}
use Rattle.pdb_resolving.specs.declared.error.Error.{Error}
use Rattle.pdb_resolving.specs.Fault.{Answers, Fault}
use Rattle.pdb_resolving.specs.Resolving.{Provided}

-- ---- at a place in a chosen function

-- a place in a chosen function of the module with that index, and the module's data, if it has some
pub record Found : Type 0 where
  pub module_index : ℕ
  pub known : Option ModuleData
  pub chosen : Chosen
  pub place : PdbInternalSectionOffset

abbrev pub found_seen : {I : Type 0} → ChosenPlace I → Found
found_seen found = record {
  module_index = found.module_index;
  known = option_copied found.known;
  chosen = chosen_seen found.chosen;
  place = found.place;
}

-- the frames there
abbrev pub frames_found : {P : Type 0} → (P → Provided) → Formatting P → Parts → Found
    → Result (Option FunctionFrames) Fault
frames_found provided f parts found = frames_of_chosen parts (env_of provided f found.module_index)
    found.known found.place (Some found.chosen)

-- the part of the module's data that has the fault
abbrev pub failing_found : Found → Option Part
failing_found found = failing_in found.module_index found.known found.chosen

-- the frames there, where a part that stands as failed has a fault of its own
abbrev pub told_found : {P I : Type 0} → (P → Provided) → Formatting P → Parts → Failures
    → ChosenPlace I → Result (Option FunctionFrames) Fault
told_found provided f parts failed place = let found = found_seen place in
    told failed (failing_found found) (frames_found provided f parts found)

-- the frames there, and how far they go on: up to where a row of them begins or ends
abbrev pub run_found : {P : Type 0} → (P → Provided) → Formatting P → Parts → Found → ℕ
    → Option FunctionFrames × ℕ
run_found provided f parts found far = run_of_answer (frames_found provided f parts found)
    (cuts_in found.known found.chosen) found.place far

-- A run is the file's there: its key, and how far it goes on, or nothing up to there where the
-- function's start has no image address.
abbrev pub RunsFile : {E : Type 0} → Parts → Option ModuleData → Chosen → Stretch
    → Result (Option FileKey × ℕ) E → Type 0
RunsFile parts known c stretch result = IfOk result (λ run. run
    ≡ run_reported (start_address parts c) stretch.far
    (file_run_of known c stretch.place stretch.far))

-- Where the known failures are true of the data of the module with that index, this is said.
abbrev pub IfFailuresOf : ℕ → Option ModuleData → KnownFailures → Type 0 → Type 0
IfFailuresOf number known failures P = (own : ℕ → Option ModuleData) → own number ≡ known
    → AreFailuresOf own failures → P

-- the same, where the known failures are true
abbrev pub RunsFileGiven : {E : Type 0} → Parts → KnownFailures → Option ModuleData
    → chosen.Chosen → Stretch → Result (Option FileKey × ℕ) E → Type 0
RunsFileGiven parts failures known c stretch result =
    IfFailuresOf stretch.module_index known failures
    (RunsFile parts known (chosen_seen c) stretch result)

-- Known failures stay true of the data of the module with that index.
abbrev pub StayFailuresOf : ℕ → Option ModuleData → KnownFailures → KnownFailures → Type 0
StayFailuresOf number known old new = (own : ℕ → Option ModuleData) → own number ≡ known
    → AreFailuresOf own old → AreFailuresOf own new

-- the same of the data of the module of a place, or of a stretch
abbrev pub StayFailuresAt : Found → KnownFailures → KnownFailures → Type 0
StayFailuresAt found old new = StayFailuresOf found.module_index found.known old new

abbrev pub StayFailuresOver : Stretch → Option ModuleData → KnownFailures → KnownFailures → Type 0
StayFailuresOver stretch known old new = StayFailuresOf stretch.module_index known old new

-- a call gave the function that was chosen, with its name from an Env
abbrev pub AnswersFunction : Parts → Env → chosen.Chosen → Result (Option Function) Error → Type 0
AnswersFunction parts env c result =
    Answers (λ f. f) result (Ok (function_of parts env (chosen_seen c)))

-- ---- keys

-- the function that a key chooses, from the data of its module
abbrev pub chosen_by_key : Parts → Option ModuleData → FunctionKey → Option Chosen
chosen_by_key parts known key = chosen_by parts (procedures_in known) key

-- a key chooses what is chosen at a place that a contribution holds; without one nothing is
abbrev pub IsKeyOfChosen : Parts → Option ModuleData → ModuleSectionContribution
    → PdbInternalSectionOffset → Option FunctionKey → Type 0
IsKeyOfChosen parts known held place key =
    option_and_then (chosen_by_key parts known) key ≡ chosen_in parts known held place

-- A call gave a key of this answer, from what keys stand for, and none for no answer. It gave a
-- number, too, of which this says nothing.
abbrev pub GivesKey : {K A : Type 0} → (K → Option A) → Option A → Result (Option K × ℕ) Error
    → Type 0
GivesKey answer_of answer result =
    Answers (λ run. option_and_then answer_of run.0) result (Ok answer)

-- ---- at a place that a contribution holds

-- the distance from a place to the next at which a function begins or ends, up to a limit
abbrev pub far_from : {P : Type 0} → (P → Provided) → Symbolizer P → ModuleSectionContribution
    → PdbInternalSectionOffset → ℕ → ℕ
far_from provided s held place limit =
    up_to_next (bounds_near s.parts (procedures_of (scope_in provided s) (Some held)) place)
    place.offset limit

-- the frames, and the part that has their fault
abbrev pub frames_held : {P : Type 0} → (P → Provided) → Symbolizer P → ModuleSectionContribution
    → PdbInternalSectionOffset → Result (Option FunctionFrames) Fault
frames_held provided s held place =
    frames_at s.parts (scope_in provided s held.module_index) held place

abbrev pub failing_held : {P : Type 0} → (P → Provided) → Symbolizer P → ModuleSectionContribution
    → PdbInternalSectionOffset → Option Part
failing_held provided s held place =
    failing_at s.parts (scope_in provided s held.module_index) held place

-- the frames, where a part that stands as failed has a fault of its own
abbrev pub told_held : {P : Type 0} → (P → Provided) → Symbolizer P → ModuleSectionContribution
    → PdbInternalSectionOffset → Result (Option FunctionFrames) Fault
told_held provided s held place =
    told s.failed (failing_held provided s held place) (frames_held provided s held place)

-- the parts that stand as failed after this answer
abbrev pub failed_held : {A P : Type 0} → (P → Provided) → Symbolizer P → ModuleSectionContribution
    → PdbInternalSectionOffset → Result A Error → Failures
failed_held provided s held place result =
    failed_after (failing_held provided s held place) result s.failed

-- the frames, and how far they go on
abbrev pub frames_run_held : {P : Type 0} → (P → Provided) → Symbolizer P
    → ModuleSectionContribution → PdbInternalSectionOffset → ℕ → Option FunctionFrames × ℕ
frames_run_held provided s held place limit =
    frames_run_at s.parts (scope_in provided s held.module_index) held place
    (far_from provided s held place limit)

-- the file's key, and how far it goes on
abbrev pub file_run_held : {P : Type 0} → (P → Provided) → Symbolizer P → ModuleSectionContribution
    → PdbInternalSectionOffset → ℕ → Option FileKey × ℕ
file_run_held provided s held place limit =
    file_run_at s.parts (scope_in provided s held.module_index) held place
    (far_from provided s held place limit)

-- the function
abbrev pub function_held : {P : Type 0} → (P → Provided) → Symbolizer P → ModuleSectionContribution
    → PdbInternalSectionOffset → Option Function
function_held provided s held place =
    function_at s.parts (scope_in provided s held.module_index) held place

-- ---- at a place

-- the part of a module's data that has the answer's fault
abbrev pub failing_on : {P : Type 0} → (P → Provided) → Symbolizer P → PdbInternalSectionOffset
    → Option Part
failing_on provided s place =
    failing_if_held s.parts (scope_in provided s) (held_at s.parts (Some place))

-- the answer, where a part that stands as failed has a fault of its own
abbrev pub told_on : {P : Type 0} → (P → Provided) → Symbolizer P → PdbInternalSectionOffset
    → Result (Option FunctionFrames) Fault
told_on provided s place = told s.failed (failing_on provided s place)
    (frames_if_held s.parts (scope_in provided s) (held_at s.parts (Some place)))

-- the frames; none that can't be read
abbrev pub frames_on : {P : Type 0} → (P → Provided) → Symbolizer P → PdbInternalSectionOffset
    → Option FunctionFrames
frames_on provided s place = readable (frames_here s.parts (scope_in provided s) place)

-- the function
abbrev pub function_on : {P : Type 0} → (P → Provided) → Symbolizer P → PdbInternalSectionOffset
    → Option Function
function_on provided s place = function_here s.parts (scope_in provided s) place

-- the function that a key stands for
abbrev pub function_of_key : {P : Type 0} → (P → Provided) → Symbolizer P → FunctionKey
    → Option Function
function_of_key provided s key = function_by s.parts (scope_in provided s) key

-- a call gave a key of this function
abbrev pub GivesFunctionKey : {P : Type 0} → (P → Provided) → Symbolizer P → Option Function
    → Result (Option FunctionKey × ℕ) Error → Type 0
GivesFunctionKey provided s function result = GivesKey (function_of_key provided s) function result

-- the file
abbrev pub file_on : {P : Type 0} → (P → Provided) → Symbolizer P → PdbInternalSectionOffset
    → FileAnswer
file_on provided s place = file_here s.parts (scope_in provided s) place

-- ---- at places

-- the functions at places, and where they may change
abbrev pub database_in : {P : Type 0} → (P → Provided) → Symbolizer P → Database Function
database_in provided s = database_of s.parts (scope_in provided s)

-- the frames
abbrev pub frames_in : {P : Type 0} → (P → Provided) → Symbolizer P
    → Database (Option FunctionFrames)
frames_in provided s = frames_of_places s.parts (scope_in provided s)

-- the files
abbrev pub files_in : {P : Type 0} → (P → Provided) → Symbolizer P → Database FileAnswer
files_in provided s = files_of s.parts (scope_in provided s)

-- a call returned the number of bytes over which the answer at a place goes on
abbrev pub IsRunOf : {A B : Type 0} → Database A → PdbInternalSectionOffset → ℕ
    → Result (B × ℕ) Error → Type 0
IsRunOf places place limit result =
    IfOk result (λ run. IsOneRun places (place_of place) limit run.1)
