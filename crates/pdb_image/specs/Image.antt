-- PE images, from their DOS header, COFF header, optional header and section headers.
-- The layout is that of Microsoft's PE Format.
use Rattle.std.specs.Prelude.{ℕ, ◌+◌, ◌*◌, ◌/◌, ◌^◌, List, length, take, drop, map, codes}
use Rattle.std.specs.Prelude.{nat_lt, nat_le, nat_eq, ◌==◌, if◌then◌else◌, Option, None, Some}
use Rattle.std.specs.Prelude.{Result, Ok, Err, ok_or}
use Rattle.std.specs.List.{starts_with}
use Rattle.std.specs.Simd.{first_chunks}
use Rattle.pdb_container.specs.Container.{half_at, word_at}
use Rattle.pdb_container.specs.Fault.{◌>>=◌, guard, refuse}
use Rattle.pdb_addresses.specs.declared.sections.ImageSectionHeader.{ImageSectionHeader}
use Rattle.pdb_addresses.specs.Sections.{header_in}
use Rattle.pdb_image.specs.declared.error.ImageError.{ImageError}
use Rattle.pdb_image.specs.declared.error.ImageError.TheVariants as faults
use Rattle.pdb_image.specs.declared.optional_header.DataDirectory.{DataDirectory}
use Rattle.pdb_image.specs.declared.optional_header.OptionalHeader.{OptionalHeader}

-- that many bytes from a place on, where all of them are there
abbrev pub part : List ℕ → ℕ → ℕ → Option (List ℕ)
part bytes place size =
    if nat_lt (length bytes) (place + size) then None else Some (take size (drop place bytes))

-- the entries of that many bytes each; fewer bytes at the end are no entry
abbrev pub entries : ℕ → List ℕ → List (List ℕ)
entries size bytes = first_chunks size (length bytes / size) bytes

-- ---- the optional header

-- The debug directory: address and size, four bytes each, of number 6 of the data directories,
-- which lie after their count. There is none where they are no more than six, or its address is 0.
unfoldable pub debug_entry_of : ℕ → List ℕ → Result (Option DataDirectory) ImageError
debug_entry_of count_place bytes =
    if nat_le (word_at bytes count_place) 6 then Ok None else (do
      entry ← ok_or (part bytes (count_place + 52) 8) faults.OptionalHeaderTooShort
      Ok (if word_at entry 0 == 0 then None
          else Some (record { address = word_at entry 0; size = word_at entry 4 })))

-- PE32: the image base in four bytes at 28, the image's size in four bytes at 56, the count of data
-- directories at 92
unfoldable pub pe32_of : List ℕ → Result OptionalHeader ImageError
pe32_of bytes = do
  whole ← refuse (nat_lt (length bytes) 96) faults.OptionalHeaderTooShort
  debug ← debug_entry_of 92 bytes
  Ok record {
    image_base = word_at bytes 28;
    size_of_image = word_at bytes 56;
    debug = debug;
  }

-- PE32+: the image base in eight bytes at 24, the image's size in four bytes at 56, the count of
-- data directories at 108
unfoldable pub pe32_plus_of : List ℕ → Result OptionalHeader ImageError
pe32_plus_of bytes = do
  whole ← refuse (nat_lt (length bytes) 112) faults.OptionalHeaderTooShort
  debug ← debug_entry_of 108 bytes
  Ok record {
    image_base = word_at bytes 28 * 2 ^ 32 + word_at bytes 24;
    size_of_image = word_at bytes 56;
    debug = debug;
  }

-- the optional header, by its magic number
unfoldable pub optional_of : List ℕ → Result OptionalHeader ImageError
optional_of bytes =
    if nat_lt (length bytes) 2 then Err faults.OptionalHeaderTooShort
    else if half_at bytes 0 == 0x10b then pe32_of bytes
    else if half_at bytes 0 == 0x20b then pe32_plus_of bytes
    else Err (faults.UnknownMagic (half_at bytes 0))

-- ---- the image

-- an image: its bytes, its machine's number, its time stamp, its image base, its size in memory,
-- the bytes of its optional header, its sections, and its debug directory
pub record Image : Type 0 where
  pub file : List ℕ
  pub machine : ℕ
  pub time_stamp : ℕ
  pub image_base : ℕ
  pub size_of_image : ℕ
  pub optional_header : List ℕ
  pub sections : List ImageSectionHeader
  pub debug : Option DataDirectory

-- The image in a file that begins with "MZ". At 60 of its DOS header stands the place of "PE" and
-- two NULs. After these come the COFF header's 20 bytes, the optional header, and the section
-- headers, 40 bytes each. The COFF header says how many sections there are and how long the
-- optional header is.
unfoldable pub image_of : List ℕ → Result Image ImageError
image_of file = do
  dos ← guard (starts_with nat_eq file (codes "MZ")) faults.NoDosSignature
  header ← ok_or (part file 0 64) faults.HeadersPastEnd
  coff ← ok_or (part file (word_at header 60) 24) faults.HeadersPastEnd
  pe ← guard (word_at coff 0 == 0x4550) faults.NoPeSignature
  bytes ← ok_or (part file (word_at header 60 + 24) (half_at coff 20)) faults.HeadersPastEnd
  optional ← optional_of bytes
  let table_place = word_at header 60 + 24 + half_at coff 20
  table ← ok_or (part file table_place (40 * half_at coff 6)) faults.SectionsPastEnd
  Ok record {
    file = file;
    machine = half_at coff 4;
    time_stamp = word_at coff 8;
    image_base = optional.image_base;
    size_of_image = optional.size_of_image;
    optional_header = bytes;
    sections = map header_in (entries 40 table);
    debug = optional.debug;
  }
