-- The exception directory of an image, and the bytes at an address.
-- The layout is that of Microsoft's PE Format.
use Rattle.std.specs.Prelude.{ℕ, ◌+◌, ◌-◌, ◌&&◌, List, [], ◌∷◌, nat_le, ◌==◌, if◌then◌else◌}
use Rattle.std.specs.Prelude.{Option, None, Some, Result, Ok, ok_or}
use Rattle.std.specs.Option.{option_or}
use Rattle.pdb_container.specs.Container.{half_at, word_at}
use Rattle.pdb_container.specs.Fault.{◌>>=◌}
use Rattle.pdb_addresses.specs.declared.sections.ImageSectionHeader.{ImageSectionHeader}
use Rattle.pdb_image.specs.Image.{Image, part}
use Rattle.pdb_image.specs.declared.error.ImageError.{ImageError}
use Rattle.pdb_image.specs.declared.error.ImageError.TheVariants as faults
use Rattle.pdb_image.specs.declared.optional_header.DataDirectory.{DataDirectory}

-- The exception directory of a PE32+ optional header: address and size, four bytes each, of number
-- 3 of the data directories, which lie after their count at 108. There is none where they are no
-- more than three.
unfoldable pub exception_entry_of : List ℕ → Result (Option DataDirectory) ImageError
exception_entry_of optional = do
  count ← ok_or (part optional 108 4) faults.OptionalHeaderTooShort
  if nat_le (word_at count 0) 3 then Ok None else (do
    entry ← ok_or (part optional 136 8) faults.OptionalHeaderTooShort
    Ok (Some (record { address = word_at entry 0; size = word_at entry 4 })))

-- the exception directory of an optional header, which is PE32+ or has none
unfoldable pub exceptions_of : List ℕ → Result (Option DataDirectory) ImageError
exceptions_of optional = do
  magic ← ok_or (part optional 0 2) faults.OptionalHeaderTooShort
  if half_at magic 0 == 0x20b then exception_entry_of optional else Ok None

-- the exception directory of an x64 image, whose machine is 0x8664
abbrev pub exception_directory_of : Image → Result (Option DataDirectory) ImageError
exception_directory_of image =
    if image.machine == 0x8664 then exceptions_of image.optional_header else Ok None

-- the place in the file of so many bytes at an address, if a section's data hold them all
abbrev pub whole_place_in : ℕ → ℕ → ImageSectionHeader → Option ℕ
whole_place_in address size s =
    if nat_le s.virtual_address address
    && nat_le (address + size) (s.virtual_address + s.size_of_raw_data)
    then Some (s.pointer_to_raw_data + (address - s.virtual_address)) else None

-- the place in the file of so many bytes at an address, in the first section whose data hold them
-- all
abbrev pub whole_place_of : ℕ → ℕ → List ImageSectionHeader → Option ℕ
whole_place_of address size [] = None
whole_place_of address size (s ∷ sections) =
    option_or (whole_place_in address size s) (whole_place_of address size sections)

-- so many bytes from a place on that may be missing
abbrev pub part_at : List ℕ → ℕ → Option ℕ → Option (List ℕ)
part_at file size None = None
part_at file size (Some place) = part file place size

-- so many bytes at an address: those of the first section whose data in the file hold them all
unfoldable pub bytes_at : Image → ℕ → ℕ → Option (List ℕ)
bytes_at image address size =
    part_at image.file size (whole_place_of address size image.sections)
