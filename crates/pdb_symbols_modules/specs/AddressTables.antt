-- The sections of an image, and those of its database with the address map between them.
use Rattle.std.specs.Prelude.{ℕ, List, [], Option, None, Some, Result, Ok}
use Rattle.pdb_container.specs.Fault.{Fault, ◌>>=◌}
use Rattle.pdb_addresses.specs.declared.sections.ImageSectionHeader.{ImageSectionHeader}
use Rattle.pdb_addresses.specs.Addresses.{Map, map_of}
use Rattle.pdb_addresses.specs.Omap.{omap_of}
use Rattle.pdb_addresses.specs.Sections.{section_headers_of}
use Rattle.pdb_symbols_modules.specs.OptionalHeader.{to_source_place, from_source_place}
use Rattle.pdb_symbols_modules.specs.OptionalHeader.{sections_place, original_sections_place}

-- the streams to which the optional header leads: the bytes of the one at a place, where one is
-- named
abbrev pub Found : Type 0
Found = ℕ → Result (Option (List ℕ)) Fault

-- the reading of a stream that may be there
abbrev pub read_if_there : {A : Type 0} → (List ℕ → Result A Fault) → Option (List ℕ)
    → Result (Option A) Fault
read_if_there read None = Ok None
read_if_there read (Some bytes) = read bytes >>= λ x. Ok (Some x)

-- the sections of the image, where there is a list of them
unfoldable pub sections_by : Found → Result (Option (List ImageSectionHeader)) Fault
sections_by found = do
  stream ← found sections_place
  read_if_there section_headers_of stream

-- the sections of the space in which the database was written, where there is a list of them
unfoldable pub original_sections_by : Found → Result (Option (List ImageSectionHeader)) Fault
original_sections_by found = do
  stream ← found original_sections_place
  read_if_there section_headers_of stream

-- the address map between both spaces
unfoldable pub map_behind : Found → List ImageSectionHeader → List ImageSectionHeader
    → Result Map Fault
map_behind found image original = do
  to_source ← found to_source_place
  to_original ← read_if_there omap_of to_source
  from_source ← found from_source_place
  to_image ← read_if_there omap_of from_source
  Ok (map_of (Some original) image to_original to_image)

-- without original sections no OMAP is used, and none is read
abbrev pub map_with : Found → List ImageSectionHeader → Option (List ImageSectionHeader)
    → Result Map Fault
map_with found image None = Ok (map_of None image None None)
map_with found image (Some original) = map_behind found image original

-- the sections of a list, or none without a list
abbrev pub or_none : Option (List ImageSectionHeader) → List ImageSectionHeader
or_none None = []
or_none (Some sections) = sections

-- the sections of both spaces and the address map between them
unfoldable pub address_map_by : Found → Result Map Fault
address_map_by found = do
  image ← sections_by found
  original ← original_sections_by found
  map_with found (or_none image) original
