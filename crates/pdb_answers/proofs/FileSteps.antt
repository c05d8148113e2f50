-- The file of a place and the file that is counted there.
use Rattle.std.proofs.Common.{◌≡◌, refl}
use Rattle.pdb_frames.specs.Files.{if_any}
use Rattle.pdb_answers.specs.FileOrNothing.{file_or_nothing}
use Rattle.pdb_owners.specs.FileAnswers.{FileAnswer, Nothing, Unreadable, NoFile, File}

pub nothing_or_file : (f : FileAnswer) → file_or_nothing (if_any f) ≡ f
nothing_or_file Nothing = refl
nothing_or_file Unreadable = refl
nothing_or_file NoFile = refl
nothing_or_file (File name) = refl
