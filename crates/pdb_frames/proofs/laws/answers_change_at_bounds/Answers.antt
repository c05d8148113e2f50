use Rattle.pdb_frames.proofs.BoundsLaw.{file_before, frames_before, function_before}
use Rattle.pdb_frames.proofs.laws.answers_change_at_bounds.Goals as goal

pub returns : goal.returns
returns c = record { functions = function_before; files = file_before; frames = frames_before }
