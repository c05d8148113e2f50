-- The module list of the DBI stream (3).
-- The layout is MODI of microsoft-pdb's dbi.h, which LLVM's The PDB DBI Stream describes.
use Rattle.std.specs.Prelude.{ℕ, ◌-◌, List, length, drop, Result, Ok}
use Rattle.std.specs.Int.{w16, w32}
use Rattle.pdb_container.specs.Fault.{Fault, ◌>>=◌}
use Rattle.pdb_container.specs.Fields.{Reader, number_at, bytes_of, c_string_at, padding}
use Rattle.pdb_container.specs.Listing.{Listing, listing}

-- an entry of the module list: the number of the module's stream, 65535 for none; the sizes of that
-- stream's parts; the module's names
pub record Module : Type 0 where
  pub stream : ℕ
  pub symbols_size : ℕ
  pub c11_lines_size : ℕ
  pub c13_lines_size : ℕ
  pub module_name : List ℕ
  pub object_file_name : List ℕ

-- An entry: numbers and two names, aligned to four bytes or the list's end. The alignment counts
-- from the entry's own beginning, since each entry is aligned.
unfoldable pub module_at : Reader Module
module_at bytes = do
  opened ← bytes_of 34 bytes
  stream ← number_at w16 opened.1
  symbols_size ← number_at w32 stream.1
  c11_lines_size ← number_at w32 symbols_size.1
  c13_lines_size ← number_at w32 c11_lines_size.1
  files ← bytes_of 16 c13_lines_size.1
  module_name ← c_string_at files.1
  object_file_name ← c_string_at module_name.1
  Ok (
    record {
      stream = stream.0;
      symbols_size = symbols_size.0;
      c11_lines_size = c11_lines_size.0;
      c13_lines_size = c13_lines_size.0;
      module_name = module_name.0;
      object_file_name = object_file_name.0;
    },
    drop (padding (length bytes - length object_file_name.1)) object_file_name.1,
  )

-- the modules, and the end of their list
abbrev pub modules_of : List ℕ → Listing Module
modules_of bytes = listing module_at bytes
