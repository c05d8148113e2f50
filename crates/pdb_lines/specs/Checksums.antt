-- Checksums of source files (DEBUG_S_FILECHKSMS), one after another. The layout is that of the pdb
-- crate's DEBUG_S_FILECHKSMS, with CV_SourceChksum_t of microsoft-pdb's cvinfo.h.
use Rattle.std.specs.Prelude.{ℕ, ◌-◌, List, length, drop, nat_le, ◌==◌, if◌then◌else◌, Result, Ok}
use Rattle.std.specs.Int.{w8, w32}
use Rattle.pdb_container.specs.Fault.{Fault, UnimplementedFileChecksumKind}
use Rattle.pdb_container.specs.Fault.{InvalidFileChecksumOffset, ◌>>=◌, guard, refuse}
use Rattle.pdb_container.specs.Fields.{Reader, number_at, bytes_of, padding}
use Rattle.pdb_container.specs.Listing.{Listing, listing}
use Rattle.pdb_lines.specs.declared.checksum.FileChecksum.{FileChecksum}
use Rattle.pdb_lines.specs.declared.checksum.FileChecksum.TheVariants as sums
use Rattle.pdb_lines.specs.declared.checksum.FileInfo.{FileInfo}

-- the checksum of a source file, by its kind
pub data Checksum : Type 0 where
  no_sum : Checksum
  md5 : List ℕ → Checksum
  sha_1 : List ℕ → Checksum
  sha_256 : List ℕ → Checksum

-- a source file: the offset of its name in the string table, and its checksum
pub record File : Type 0 where
  pub name : ℕ
  pub checksum : Checksum

-- the checksum of these bytes, by the number of its kind
abbrev pub checksum_of : ℕ → List ℕ → Checksum
checksum_of kind bytes =
    if kind == 0 then no_sum
    else (if kind == 1 then md5 bytes else (if kind == 2 then sha_1 bytes else sha_256 bytes))

-- A file in a list of that many bytes: its name, the size and the kind of its checksum, the
-- checksum, and padding to a multiple of 4 from the list's start. An unknown kind is reported
-- before missing bytes after it.
unfoldable pub file_at : ℕ → Reader File
file_at whole bytes = do
  name ← number_at w32 bytes
  size ← number_at w8 name.1
  kind ← number_at w8 size.1
  known ← guard (nat_le kind.0 3) (UnimplementedFileChecksumKind kind.0)
  content ← bytes_of size.0 kind.1
  behind ← bytes_of (padding (whole - length content.1)) content.1
  Ok (record { name = name.0; checksum = checksum_of kind.0 content.0 }, behind.1)

-- the files of a list that are left after a place
abbrev pub files_from : List ℕ → ℕ → Listing File
files_from list place = listing (file_at (length list)) (drop place list)

-- the files of a list
abbrev pub files_of : List ℕ → Listing File
files_of list = listing (file_at (length list)) list

-- the file at a place in a list, which has to lie in it
unfoldable pub file_in : List ℕ → ℕ → Result File Fault
file_in list place = do
  within ← refuse (nat_le (length list) place) (InvalidFileChecksumOffset place)
  read ← file_at (length list) (drop place list)
  Ok read.0

-- a checksum as it is returned
abbrev pub checksum_seen : FileChecksum → Checksum
checksum_seen sums.None = no_sum
checksum_seen (sums.Md5 bytes) = md5 bytes.now
checksum_seen (sums.Sha1 bytes) = sha_1 bytes.now
checksum_seen (sums.Sha256 bytes) = sha_256 bytes.now

-- a file as it is returned
abbrev pub file_seen : FileInfo → File
file_seen file = record { name = file.name.0; checksum = checksum_seen file.checksum }
