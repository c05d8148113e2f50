-- A file, or nothing where none is counted.
use Rattle.std.specs.Prelude.{Option, None, Some}
use Rattle.pdb_owners.specs.FileAnswers.{FileAnswer, Nothing}

-- the file that is counted; nothing where none is
abbrev pub file_or_nothing : Option FileAnswer → FileAnswer
file_or_nothing None = Nothing
file_or_nothing (Some file) = file
