-- The answers of a context, and what a question leaves of it.
use Rattle.std.specs.Prelude.{◌≡◌, ℕ, List, Option, Some, Result, IfOk, is_some, drop}
use Rattle.pdb_addresses.specs.declared.internal_section_offset.PdbInternalSectionOffset.{
  PdbInternalSectionOffset,
}
use Rattle.pdb_resolving.specs.declared.error.Error.{Error}
use Rattle.pdb_resolving.specs.Fault.{Answers, Fault}
use Rattle.pdb_resolving.specs.Resolving.{Provided}
use Rattle.pdb_answers.specs.Choice.{held_at}
use Rattle.pdb_answers.specs.FailingParts.{Failures, failed_after, told}
use Rattle.pdb_frames.specs.Failing.{Part, failing, failing_if_held}
use Rattle.pdb_frames.specs.Files.{file_here, files_keyed, files_of}
use Rattle.pdb_frames.specs.FrameRuns.{frames_here, frames_of_places, readable}
use Rattle.pdb_frames.specs.FramesAt.{frames, frames_if_held, function}
use Rattle.pdb_frames.specs.Keys.{function_by, keyed_of}
use Rattle.pdb_frames.specs.Runs.{database_of, function_here}
use Rattle.pdb_frames.specs.Scopes.{entries_of}
use Rattle.pdb_owners.specs.Databases.{Database, IsOneRun, Keyed, place_of}
use Rattle.pdb_owners.specs.declared.file_key.FileKey.{FileKey}
use Rattle.pdb_owners.specs.declared.function_key.FunctionKey.{FunctionKey}
use Rattle.pdb_owners.specs.FileAnswers.{FileAnswer}
use Rattle.pdb_owners.specs.Frames.{FunctionFrames}
use Rattle.pdb_owners.specs.FunctionOrder.{Function}
use Rattle.pdb_addr2line.specs.Context.{Context, lookups_after, scope_in}
use Rattle.pdb_addr2line.specs.FunctionList.{AreFunctions, FunctionsLeft, GivesFunction}
use Rattle.pdb_addr2line.specs.FunctionList.{functions_left}
use Rattle.pdb_addr2line.specs.Starts.{start_addresses}

-- ---- at an address

-- the answer of a context for an address
abbrev pub answer_of : {P : Type 0} → (P → Provided) → Context P → ℕ
    → Result (Option FunctionFrames) Fault
answer_of provided c a = frames c.parts (scope_in provided c) a

-- the part of a module's data that has the answer's fault
abbrev pub failing_of : {P : Type 0} → (P → Provided) → Context P → ℕ → Option Part
failing_of provided c a = failing c.parts (scope_in provided c) a

-- the same where a part that stands as failed has a fault of its own
abbrev pub told_of : {P : Type 0} → (P → Provided) → Context P → ℕ
    → Result (Option FunctionFrames) Fault
told_of provided c a = told c.failed (failing_of provided c a) (answer_of provided c a)

-- the function of a context at an address
abbrev pub function_of : {P : Type 0} → (P → Provided) → Context P → ℕ → Option Function
function_of provided c a = function c.parts (scope_in provided c) a

-- ---- at a place

-- the part of a module's data that has the fault of the answer at a place
abbrev pub failing_on : {P : Type 0} → (P → Provided) → Context P → PdbInternalSectionOffset
    → Option Part
failing_on provided c place =
    failing_if_held c.parts (scope_in provided c) (held_at c.parts (Some place))

-- the answer at a place, where a part that stands as failed has a fault of its own
abbrev pub told_on : {P : Type 0} → (P → Provided) → Context P → PdbInternalSectionOffset
    → Result (Option FunctionFrames) Fault
told_on provided c place = told c.failed (failing_on provided c place)
    (frames_if_held c.parts (scope_in provided c) (held_at c.parts (Some place)))

-- the frames at a place; none that can't be read
abbrev pub frames_on : {P : Type 0} → (P → Provided) → Context P → PdbInternalSectionOffset
    → Option FunctionFrames
frames_on provided c place = readable (frames_here c.parts (scope_in provided c) place)

-- the function at a place
abbrev pub function_on : {P : Type 0} → (P → Provided) → Context P → PdbInternalSectionOffset
    → Option Function
function_on provided c place = function_here c.parts (scope_in provided c) place

-- the function that a key stands for
abbrev pub function_of_key : {P : Type 0} → (P → Provided) → Context P → FunctionKey
    → Option Function
function_of_key provided c key = function_by c.parts (scope_in provided c) key

-- the file at a place
abbrev pub file_on : {P : Type 0} → (P → Provided) → Context P → PdbInternalSectionOffset
    → FileAnswer
file_on provided c place = file_here c.parts (scope_in provided c) place

-- ---- at places

-- the functions of a context at places, and where they may change
abbrev pub database_in : {P : Type 0} → (P → Provided) → Context P → Database Function
database_in provided c = database_of c.parts (scope_in provided c)

-- the functions of a context at places, by keys
abbrev pub keyed_in : {P : Type 0} → (P → Provided) → Context P → Keyed FunctionKey Function
keyed_in provided c = keyed_of c.parts (scope_in provided c)

-- the frames of a context at places, and where they may change
abbrev pub frames_in : {P : Type 0} → (P → Provided) → Context P → Database (Option FunctionFrames)
frames_in provided c = frames_of_places c.parts (scope_in provided c)

-- the files of a context at places, and where they may change
abbrev pub files_in : {P : Type 0} → (P → Provided) → Context P → Database FileAnswer
files_in provided c = files_of c.parts (scope_in provided c)

-- the files of a context at places, by keys
abbrev pub files_keyed_in : {P : Type 0} → (P → Provided) → Context P → Keyed FileKey FileAnswer
files_keyed_in provided c = files_keyed c.parts (scope_in provided c)

-- a call returned the number of bytes over which the answer at a place goes on
abbrev pub IsRunOf : {A B : Type 0} → Database A → PdbInternalSectionOffset → ℕ
    → Result (B × ℕ) Error → Type 0
IsRunOf places place limit result =
    IfOk result (λ run. IsOneRun places (place_of place) limit run.1)

-- ---- all functions

-- the addresses at which functions of a context begin
abbrev pub starts_in : {P : Type 0} → (P → Provided) → Context P → List ℕ
starts_in provided c = start_addresses c.parts (scope_in provided c) (entries_of c.formatting)

-- the functions of a context at addresses that are left
abbrev pub left_in : {P : Type 0} → (P → Provided) → Context P → List ℕ → FunctionsLeft
left_in provided c addresses = functions_left c.parts (scope_in provided c) addresses

-- A call gave a context's next function at addresses, from one place of their list on, and went on
-- to another.
abbrev pub GivesNext : {P : Type 0} → (P → Provided) → Context P → List ℕ → ℕ
    → Option (Result Function Error) → ℕ → Type 0
GivesNext provided c addresses old result new =
    GivesFunction (left_in provided c (drop old addresses)) result
    (left_in provided c (drop new addresses))

-- the functions of a context
abbrev pub AreFunctionsOf : {P : Type 0} → (P → Provided) → Context P → List Function → Type 0
AreFunctionsOf provided c functions =
    AreFunctions c.parts (scope_in provided c) (entries_of c.formatting) functions

-- ---- answers in another form

-- a call answers whatever another one answers, unless memory is short
abbrev pub AnswersAlike : {X Y : Type 0} → (X → Y) → Result X Error → Result X Error → Type 0
AnswersAlike {X} {Y} view found result =
    (spec : Result Y Fault) → Answers view found spec → Answers view result spec

-- both leave the same parts as failed
abbrev pub FailsAlike : {A B : Type 0} → Result A Error → Result B Error → Type 0
FailsAlike result found = (part : Option Part) (f : Failures)
    → failed_after part result f ≡ failed_after part found f

-- ---- what a question leaves

-- a question for a place counts a lookup, if there is one
abbrev pub CountsLookup : {P A : Type 0} → Option PdbInternalSectionOffset → Context P
    → Result A Error → Context P → Type 0
CountsLookup place old result new =
    new.lookups ≡ lookups_after (is_some place) result old.lookups

-- the part that had the fault of the answer stands as failed
abbrev pub StoresFailed : {P A : Type 0} → Option Part → Context P → Result A Error → Context P
    → Type 0
StoresFailed part old result new = new.failed ≡ failed_after part result old.failed
