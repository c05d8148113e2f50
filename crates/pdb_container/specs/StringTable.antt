-- The string table (`/names`), to whose names lines and modules refer.
-- The layout is that of microsoft-pdb's nmt.h, as the pdb crate reads it.
use Rattle.std.specs.Prelude.{ℕ, ◌||◌, ◌&&◌, not, List, drop, ◌==◌, Result, Ok, codes}
use Rattle.std.specs.Int.{w32}
use Rattle.std.specs.Str.Lossy.{utf8_lossy}
use Rattle.pdb_container.specs.Fault.{Fault, UnimplementedFeature, ◌>>=◌, refuse}
use Rattle.pdb_container.specs.Fields.{number_at, bytes_of, c_string_at}

-- the bytes of the names: after signature, version and their size, and all there
unfoldable pub names_of : List ℕ → Result (List ℕ) Fault
names_of bytes = do
  signature ← number_at w32 bytes
  version ← number_at w32 signature.1
  size ← number_at w32 version.1
  known ← refuse (not ((signature.0 == 0xeffeeffe) && ((version.0 == 1) || (version.0 == 2))))
      (UnimplementedFeature (codes "string table"))
  names ← bytes_of size.0 size.1
  Ok names.0

-- the name that begins at an offset among them, and ends with a NUL there
unfoldable pub name_in : List ℕ → ℕ → Result (List ℕ) Fault
name_in names offset = do
  name ← c_string_at (drop offset names)
  Ok name.0

-- the name at an offset as text, with U+FFFD for what is no character
abbrev pub text_in : List ℕ → ℕ → Result (List ℕ) Fault
text_in names offset = name_in names offset >>= λ name. Ok (utf8_lossy name)
