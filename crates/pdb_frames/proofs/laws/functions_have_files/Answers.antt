use Rattle.pdb_frames.proofs.FileRunLaw.{functions_have_files}
use Rattle.pdb_frames.proofs.laws.functions_have_files.Goals as goal

pub returns : goal.returns
returns c = functions_have_files
