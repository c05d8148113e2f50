-- The function's own frame, whatever fault is told of a part that failed before.
use Rattle.std.proofs.Common.{◌≡◌, refl}
use Rattle.std.specs.Prelude.{Option, None, Some, Result, Ok, Err}
use Rattle.pdb_frames.specs.FailingParts.{Failures, told}
use Rattle.pdb_frames.specs.Failing.{Part}
use Rattle.pdb_owners.specs.Frames.{FunctionFrames}
use Rattle.pdb_resolving.specs.Fault.{Fault}
use Rattle.pdb_listings.specs.Functions.{own_frame}

pub own_frame_told : (f : Failures) (part : Option Part)
    (read : Result (Option FunctionFrames) Fault) → own_frame (told f part read) ≡ own_frame read
own_frame_told f part (Ok (Some x)) = refl
own_frame_told f part (Ok None) = refl
own_frame_told f part (Err e) = refl
