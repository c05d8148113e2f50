-- The statements of the definitions about each other.
use Rattle.std.specs.Prelude.{◌≡◌, ℕ, true, Ok, Err, Some, is_some}
use Rattle.pdb_addr2line.specs.Loading.{Loaded, loaded}
use Rattle.pdb_frames.specs.Choice.{Parts}
use Rattle.pdb_frames.specs.Depth.{AreAsDeep}
use Rattle.pdb_frames.specs.Failing.{failing}
use Rattle.pdb_frames.specs.FramesAt.{frames}
use Rattle.pdb_frames.specs.Scopes.{Scope}
use Rattle.pdb_owners.specs.Frames.{FunctionFrames}
use Rattle.pdb_report.specs.Answer.{answer, scope}
use Rattle.pdb_resolving.specs.Fault.{Fault}
use Rattle.pdb_symbols_modules.specs.Shared.{shared}
use Rattle.pdb_symbols_modules.specs.Streams.{Streams}

-- Where the frames at an address have a fault, a part fails there.
abbrev pub FailsInAPart : Parts → (ℕ → Scope) → ℕ → Type 0
FailsInAPart parts scope address =
    (e : Fault) → frames parts scope address ≡ Err e → is_some (failing parts scope address) ≡ true

-- The number of frames of a file's answer for an address is one more than the depth of the deepest
-- inline site over the address's place.
abbrev pub AnswersAsDeep : Streams → ℕ → Type 0
AnswersAsDeep s address = (found : FunctionFrames) → answer s address ≡ Ok (Some found)
    → (l : Loaded) × (loaded (shared s) ≡ Ok l) × AreAsDeep l.parts (scope s l) address found.frames
