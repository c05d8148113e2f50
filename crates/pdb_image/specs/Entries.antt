-- The entries of an x64 image's exception directory, and the functions that are unwound by them.
use Rattle.std.specs.Prelude.{ℕ, zero, suc, ◌+◌, ◌/◌, List, [], ◌∷◌}
use Rattle.std.specs.Prelude.{nat_lt, nat_le, if◌then◌else◌, Option, None, Some, Result, Ok}
use Rattle.std.specs.Result.{result_ok}
use Rattle.pdb_container.specs.Container.{word_at}
use Rattle.pdb_container.specs.Fault.{◌>>=◌, guard}
use Rattle.pdb_image.specs.Image.{Image}
use Rattle.pdb_image.specs.Tables.{bytes_at, exception_directory_of}
use Rattle.pdb_image.specs.declared.error.ImageError.{ImageError}
use Rattle.pdb_image.specs.declared.optional_header.DataDirectory.{DataDirectory}
use Rattle.pdb_image.specs.Codes.{codes_of}
use Rattle.pdb_image.specs.declared.code.UnwindCode.{UnwindCode}
use Rattle.pdb_image.specs.declared.fault.UnwindFault.{UnwindFault}
use Rattle.pdb_image.specs.declared.fault.UnwindFault.TheVariants as faults
use Rattle.pdb_image.specs.declared.entry.FunctionEntry.{FunctionEntry}

-- an entry, 12 bytes: where the function begins and ends, and where its unwind information lies
abbrev pub entry_in : List ℕ → FunctionEntry
entry_in bytes = record {
  begin = word_at bytes 0;
  end = word_at bytes 4;
  info = word_at bytes 8;
}

-- an entry before others, if it is there; otherwise the list ends
abbrev pub entry_before : Option (List ℕ) → List FunctionEntry → List FunctionEntry
entry_before None others = []
entry_before (Some bytes) others = entry_in bytes ∷ others

-- at most so many entries from an address on, to the first that isn't there
unfoldable pub entries_from : Image → ℕ → ℕ → List FunctionEntry
entries_from image zero address = []
entries_from image (suc count) address =
    entry_before (bytes_at image address 12) (entries_from image count (address + 12))

-- the entries of an exception directory
abbrev pub entries_in : Image → Option DataDirectory → List FunctionEntry
entries_in image None = []
entries_in image (Some d) = entries_from image (d.size / 12) d.address

-- a function that can be unwound: where it begins and ends, and its unwind codes
pub record UnwoundFunction : Type 0 where
  pub begin : ℕ
  pub end : ℕ
  pub codes : List UnwindCode

-- the function of an entry: it has bytes, and its codes can be read
unfoldable pub function_at : Image → FunctionEntry → Result UnwoundFunction UnwindFault
function_at image entry = do
  bytes ← guard (nat_lt entry.begin entry.end) faults.EmptyRange
  codes ← codes_of image entry.info
  Ok record { begin = entry.begin; end = entry.end; codes = codes }

-- The function of an entry that is taken: it doesn't begin below the end of the one before, and can
-- be read.
abbrev pub taken : Image → ℕ → FunctionEntry → Option UnwoundFunction
taken image last entry =
    if nat_le last entry.begin then result_ok (function_at image entry) else None

-- a function before those that follow its end; those that follow the one before, if there is none
abbrev pub function_before : Option UnwoundFunction → ℕ → (ℕ → List UnwoundFunction)
    → List UnwoundFunction
function_before None last others = others last
function_before (Some f) last others = f ∷ others f.end

-- The functions of entries, in order; an entry that isn't taken is left out.
unfoldable pub functions_of : Image → List FunctionEntry → ℕ → List UnwoundFunction
functions_of image [] last = []
functions_of image (entry ∷ entries) last =
    function_before (taken image last entry) last (functions_of image entries)

-- the functions of an image, from its exception directory
unfoldable pub functions_in : Image → Result (List UnwoundFunction) ImageError
functions_in image = do
  directory ← exception_directory_of image
  Ok (functions_of image (entries_in image directory) 0)
