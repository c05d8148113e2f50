-- The CodeView record of an image: which PDB it has.
-- The debug directory's layout is that of Microsoft's PE Format, the record's that of LLVM's
-- PDB70DebugInfo (CVDebugRecord.h).
use Rattle.std.specs.Prelude.{◌≡◌, ℕ, ◌+◌, ◌-◌, ◌&&◌, Bool, List, [], ◌∷◌, length, take, drop}
use Rattle.std.specs.Prelude.{codes, position, nat_lt, nat_le, nat_eq, ◌==◌, if◌then◌else◌, Option}
use Rattle.std.specs.Prelude.{None, Some, Result, Ok, Err, ok_or}
use Rattle.std.specs.Option.{option_or}
use Rattle.std.specs.List.{starts_with, find, list_any}
use Rattle.pdb_container.specs.Container.{word_at}
use Rattle.pdb_container.specs.Fault.{◌>>=◌, refuse}
use Rattle.pdb_addresses.specs.declared.sections.ImageSectionHeader.{ImageSectionHeader}
use Rattle.pdb_image.specs.Image.{Image, part, entries}
use Rattle.pdb_image.specs.declared.error.ImageError.{ImageError}
use Rattle.pdb_image.specs.declared.error.ImageError.TheVariants as faults
use Rattle.pdb_image.specs.declared.identity.PdbIdentity.{PdbIdentity}
use Rattle.pdb_image.specs.declared.optional_header.DataDirectory.{DataDirectory}

-- A call returned what a reading gives, its value seen by view, or exactly its fault.
abbrev pub Returns : {X Y : Type 0} → (X → Y) → Result X ImageError → Result Y ImageError → Type 0
Returns view (Ok x) reading = reading ≡ Ok (view x)
Returns view (Err e) reading = reading ≡ Err e

-- the content of a record: the identity of the PDB, and the PDB's path
pub record CodeView : Type 0 where
  pub identity : PdbIdentity
  pub path : List ℕ

-- a section's data in the file hold an address
abbrev pub holds : ℕ → ImageSectionHeader → Bool
holds address s =
    nat_le s.virtual_address address && nat_lt address (s.virtual_address + s.size_of_raw_data)

-- the place in the file of an address, if a section's data hold it
abbrev pub place_in : ℕ → ImageSectionHeader → Option ℕ
place_in address s =
    if holds address s then Some (s.pointer_to_raw_data + (address - s.virtual_address)) else None

-- the place in the file of an address, in the first section whose data hold it
abbrev pub place_of : ℕ → List ImageSectionHeader → Option ℕ
place_of address [] = None
place_of address (s ∷ sections) = option_or (place_in address s) (place_of address sections)

-- the place of the debug directory in the file
abbrev pub directory_place : Image → DataDirectory → Result ℕ ImageError
directory_place image d =
    ok_or (place_of d.address image.sections) (faults.DebugDirectoryNotFound d.address)

-- the bytes of the debug directory, which are all there
unfoldable pub directory_of : Image → DataDirectory → Result (List ℕ) ImageError
directory_of image d = do
  place ← directory_place image d
  ok_or (part image.file place d.size) faults.DebugDirectoryPastEnd

-- an entry of the debug directory is of type 2, CodeView
abbrev pub is_code_view : List ℕ → Bool
is_code_view entry = word_at entry 12 == 2

-- ..and "RSDS" stands at its pointer to raw data
abbrev pub is_rsds : List ℕ → List ℕ → Bool
is_rsds file entry =
    is_code_view entry && starts_with nat_eq (drop (word_at entry 24) file) (codes "RSDS")

-- the bytes before a NUL, if there is one
abbrev pub ended_at : List ℕ → Option ℕ → Result (List ℕ) ImageError
ended_at bytes None = Err faults.PathNotEnded
ended_at bytes (Some end) = Ok (take end bytes)

-- the path that bytes begin with: the bytes before the first NUL
unfoldable pub path_of : List ℕ → Result (List ℕ) ImageError
path_of bytes = ended_at bytes (position (λ byte. byte == 0) bytes)

-- a record: "RSDS", the GUID's 16 bytes, the age in four, and the path
unfoldable pub rsds_of : List ℕ → Result CodeView ImageError
rsds_of bytes = do
  whole ← refuse (nat_lt (length bytes) 24) faults.RecordTooShort
  path ← path_of (drop 24 bytes)
  Ok record {
    identity = record { guid = take 16 (drop 4 bytes); age = word_at bytes 20 };
    path = path;
  }

-- the record of an entry: its size stands at 16, its place in the file at 24
unfoldable pub record_of : List ℕ → List ℕ → Result CodeView ImageError
record_of file entry = do
  bytes ← ok_or (part file (word_at entry 24) (word_at entry 16)) faults.RecordPastEnd
  rsds_of bytes

-- the record of the entry that was found, if one was; none of no CodeView entry at all
abbrev pub found_record : List ℕ → List (List ℕ) → Option (List ℕ)
    → Result (Option CodeView) ImageError
found_record file directory (Some entry) = record_of file entry >>= λ r. Ok (Some r)
found_record file directory None =
    if list_any is_code_view directory then Err faults.NoRsdsRecord else Ok None

-- the record of the first CodeView entry that has an RSDS record, of entries of 28 bytes each
unfoldable pub record_in : List ℕ → List ℕ → Result (Option CodeView) ImageError
record_in file directory =
    found_record file (entries 28 directory) (find (is_rsds file) (entries 28 directory))

-- the record of an image with this debug directory
abbrev pub code_view_in : Image → Option DataDirectory → Result (Option CodeView) ImageError
code_view_in image None = Ok None
code_view_in image (Some d) = directory_of image d >>= record_in image.file

-- the CodeView record of an image, if it has one
unfoldable pub code_view_of : Image → Result (Option CodeView) ImageError
code_view_of image = code_view_in image image.debug
