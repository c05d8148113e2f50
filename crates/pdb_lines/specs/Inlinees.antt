-- Inlinees (DEBUG_S_INLINEELINES): inlined functions, as a module lists them.
-- The layout is that of InlineeSourceLine and InlineeSourceLineEx in microsoft-pdb's cvinfo.h.
use Rattle.std.specs.Prelude.{ℕ, ◌*◌, ◌==◌, Bool, List, [], Result, Ok, if◌then◌else◌}
use Rattle.std.specs.Int.{w32}
use Rattle.pdb_container.specs.Fault.{Fault, ◌>>=◌}
use Rattle.pdb_container.specs.Fields.{Reader, number_at, bytes_of}
use Rattle.pdb_container.specs.Listing.{Listing, listing}
use Rattle.pdb_container.specs.declared.index.IdIndex.{IdIndex}
use Rattle.pdb_container.specs.declared.index_numbers.FileIndex.{FileIndex}

-- an inlinee: the id of an inlined function, the file of its text and the line at which the text
-- begins
pub record InlinedFunction : Type 0 where
  pub index : IdIndex
  pub file : FileIndex
  pub line : ℕ

-- that many further files, as bytes, after their count
unfoldable pub files_at : Reader (List ℕ)
files_at bytes = do
  count ← number_at w32 bytes
  bytes_of (4 * count.0) count.1

-- the further files of an entry, which are passed over; none, where entries have none
abbrev pub further_files_at : Bool → Reader (List ℕ)
further_files_at has_files bytes = if has_files then files_at bytes else Ok ([], bytes)

-- an inlinee, which may have further files
unfoldable pub inlinee_at : Bool → Reader InlinedFunction
inlinee_at has_files bytes = do
  index ← number_at w32 bytes
  file ← number_at w32 index.1
  line ← number_at w32 file.1
  files ← further_files_at has_files line.1
  Ok (
    record { index = record { 0 = index.0 }; file = record { 0 = file.0 }; line = line.0 },
    files.1,
  )

-- the inlinees of a subsection: after a signature of 1 they have further files, after any other
-- they have none
unfoldable pub inlinees_of : List ℕ → Result (Listing InlinedFunction) Fault
inlinees_of bytes = do
  signature ← number_at w32 bytes
  Ok (listing (inlinee_at (signature.0 == 1)) signature.1)
