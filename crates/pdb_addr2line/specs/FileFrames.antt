-- The frames that are found in a file that is read on demand.
use Rattle.std.specs.Prelude.{◌≡◌, ℕ, Option, None, Some, Result, Ok, Err, IsErr}
use Rattle.pdb_addresses.specs.declared.internal_section_offset.PdbInternalSectionOffset.{
  PdbInternalSectionOffset,
}
use Rattle.pdb_owners.specs.Databases.{Database, IsOneRun, place_of}
use Rattle.pdb_owners.specs.Frames.{FunctionFrames}
use Rattle.pdb_addr2line.specs.declared.file_frames.FileFramesFault.{FileFramesFault}
use Rattle.pdb_addr2line.specs.declared.file_frames.FileFramesFault.TheVariants.{Context, File}
use Rattle.pdb_resolving.specs.Fault.{Fault}
use Rattle.pdb_resolving.specs.declared.error.Error.{Error}
use Rattle.pdb_resolving.specs.declared.error.Error.TheVariants as errors

-- The frames that were found are the answer, and another fault than out of memory comes where the
-- answer is a fault.
abbrev pub FindsHeldFrames : Result (Option FunctionFrames) Error
    → Result (Option FunctionFrames) Fault → Type 0
FindsHeldFrames (Ok found) answered = answered ≡ Ok found
FindsHeldFrames (Err errors.OutOfMemory) answered = Unit {0}
FindsHeldFrames (Err e) answered = IsErr answered

-- The same where the file couldn't be read, of which nothing is said.
abbrev pub FindsFrames : Result (Option FunctionFrames) FileFramesFault
    → Result (Option FunctionFrames) Fault → Type 0
FindsFrames (Ok found) answered = answered ≡ Ok found
FindsFrames (Err (Context e)) answered = FindsHeldFrames (Err e) answered
FindsFrames (Err (File kind)) answered = Unit {0}

-- the frames that are found at a place, from an answer as it is counted
abbrev pub found_by : Option (Option FunctionFrames) → Option FunctionFrames
found_by None = None
found_by (Some frames) = frames

-- the frames that are found at a place of a file
abbrev pub found_at : Database (Option FunctionFrames) → PdbInternalSectionOffset
    → Option FunctionFrames
found_at frames place = found_by (frames.answer (place_of place))

-- a run of frames from a place on
abbrev pub IsFramesRun : Database (Option FunctionFrames) → PdbInternalSectionOffset → ℕ → ℕ
    → Type 0
IsFramesRun frames place limit n = IsOneRun frames (place_of place) limit n
