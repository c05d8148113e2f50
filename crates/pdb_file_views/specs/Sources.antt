-- Sources of a file's bytes.
use Rattle.std.specs.Prelude.{ℕ, List}
use Rattle.pdb_file_views.specs.declared.file_source.FileBytes.{FileBytes}
use Rattle.pdb_file_views.specs.declared.file_source.FileBytes.TheVariants.{Whole, Views}

-- the bytes of a file, in memory or not
abbrev pub bytes_of : FileBytes → List ℕ
bytes_of (Whole bytes) = bytes
bytes_of (Views views) = views
