-- Section headers, the places of addresses, and the addresses of places.
-- A header's layout is IMAGE_SECTION_HEADER of the PE format, as the pdb crate reads it.
use Rattle.std.specs.Prelude.{ℕ, ◌+◌, ◌-◌, Bool, not, List, [], ◌∷◌, nat_lt, nat_le, ◌==◌, Option}
use Rattle.std.specs.Prelude.{None, Some, if◌then◌else◌, slice_get, position, take, Result, Ok}
use Rattle.std.specs.Prelude.{bit_and}
use Rattle.pdb_container.specs.Container.{half_at, word_at}
use Rattle.pdb_container.specs.Fault.{Fault, ◌>>=◌}
use Rattle.pdb_container.specs.Fields.{Reader, bytes_of, entries}
use Rattle.pdb_addresses.specs.declared.sections.ImageSectionHeader.{ImageSectionHeader}
use Rattle.pdb_addresses.specs.declared.sections.SectionCharacteristics.{SectionCharacteristics}
use Rattle.pdb_addresses.specs.Numbers.{in_32_bits}
use Rattle.pdb_addresses.specs.Places.{Place}

-- a section header, by the places of its numbers
abbrev pub header_in : List ℕ → ImageSectionHeader
header_in bytes = record {
  name = take 8 bytes;
  virtual_size = word_at bytes 8;
  virtual_address = word_at bytes 12;
  size_of_raw_data = word_at bytes 16;
  pointer_to_raw_data = word_at bytes 20;
  pointer_to_relocations = word_at bytes 24;
  pointer_to_line_numbers = word_at bytes 28;
  number_of_relocations = half_at bytes 32;
  number_of_line_numbers = half_at bytes 34;
  characteristics = record { 0 = word_at bytes 36 };
}

-- a section header, 40 bytes
unfoldable pub section_header_at : Reader ImageSectionHeader
section_header_at bytes = do
  header ← bytes_of 40 bytes
  Ok (header_in header.0, header.1)

-- the section headers of a stream, to its end
abbrev pub section_headers_of : List ℕ → Result (List ImageSectionHeader) Fault
section_headers_of bytes = entries section_header_at bytes

-- the bytes before a place, if it is known, or all of them
abbrev pub text_to : List ℕ → Option ℕ → List ℕ
text_to bytes None = bytes
text_to bytes (Some end) = take end bytes

-- the bytes before the first NUL, or all of them
abbrev pub text_before_nul : List ℕ → List ℕ
text_before_nul bytes = text_to bytes (position (λ byte. byte == 0) bytes)

-- code may run in a section
abbrev pub may_execute : SectionCharacteristics → Bool
may_execute c = not (bit_and c.0 0x20000000 == 0)

-- the section with that index, counted from 1
abbrev pub section_at : List ImageSectionHeader → ℕ → Option ImageSectionHeader
section_at sections number = if number == 0 then None else slice_get sections (number - 1)

-- the place of an offset in the section with that index; none for an index past 65535
abbrev pub place_in : ℕ → ℕ → Option Place
place_in number offset =
    if nat_le number 65535 then Some (record { section = number; offset = offset })
    else None

-- The place of an address among the sections from a number on: they are walked while their virtual
-- address is at most the address, and the first that holds it has it.
abbrev pub place_from : ℕ → List ImageSectionHeader → ℕ → Option Place
place_from number [] address = None
place_from number (s ∷ sections) address =
    if nat_lt address s.virtual_address then None
    else (if nat_lt (address - s.virtual_address) s.virtual_size
    then place_in number (address - s.virtual_address)
    else place_from (number + 1) sections address)

-- the place of an address
abbrev pub place : List ImageSectionHeader → ℕ → Option Place
place sections address = place_from 1 sections address

-- the address at an offset in a section that may be missing, if it has 32 bits
abbrev pub address_behind : Option ImageSectionHeader → ℕ → Option ℕ
address_behind None offset = None
address_behind (Some s) offset = in_32_bits (s.virtual_address + offset)

-- the address of a place
abbrev pub address : List ImageSectionHeader → ℕ → ℕ → Option ℕ
address sections section offset = address_behind (section_at sections section) offset
