use Rattle.pdb_frames.proofs.FramesDeep.{frames_deep}
use Rattle.pdb_frames.proofs.laws.frames_as_deep.Goals as goal

pub returns : goal.returns
returns c = frames_deep
