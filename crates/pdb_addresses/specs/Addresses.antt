-- RVAs: the addresses of an image, and those of the space in which its database was written.
use Rattle.std.specs.Prelude.{ℕ, Bool, true, ◌&&◌, List, Option, None, Some, option_and_then}
use Rattle.std.specs.Prelude.{option_map}
use Rattle.std.specs.Global.{Vec}
use Rattle.pdb_addresses.specs.declared.sections.ImageSectionHeader.{ImageSectionHeader}
use Rattle.pdb_addresses.specs.declared.omap.OMAPRecord.{OMAPRecord}
use Rattle.pdb_addresses.specs.Omap.{AreSourcesInOrder, are_sources_in_order, translated}
use Rattle.pdb_addresses.specs.Places.{Place}
use Rattle.pdb_addresses.specs.Sections.{place, address}

-- an address map: the sections of both spaces, and the maps between them
pub record Map : Type 0 where
  pub internal : List ImageSectionHeader
  pub image : List ImageSectionHeader
  pub to_internal : Option (List OMAPRecord)
  pub to_image : Option (List OMAPRecord)

-- With original sections the internal sections are these. Without them both lists are the image's,
-- and no map is used.
abbrev pub map_of : Option (List ImageSectionHeader) → List ImageSectionHeader
    → Option (List OMAPRecord) → Option (List OMAPRecord) → Map
map_of None image to_internal to_image =
    record { internal = image; image = image; to_internal = None; to_image = None }
map_of (Some original) image to_internal to_image =
    record { internal = original; image = image; to_internal = to_internal; to_image = to_image }

-- the map of these vectors
abbrev pub map_of_vectors : Option (Vec ImageSectionHeader) → Vec ImageSectionHeader
    → Option (Vec OMAPRecord) → Option (Vec OMAPRecord) → Map
map_of_vectors original image to_internal to_image =
    map_of (option_map (λ v. v.items) original) image.items
    (option_map (λ v. v.items) to_internal) (option_map (λ v. v.items) to_image)

-- a map, if there is one, has no source below the one before it
abbrev pub IsInOrder : Option (List OMAPRecord) → Type 0
IsInOrder None = Unit {0}
IsInOrder (Some records) = AreSourcesInOrder records

-- whether a map, if there is one, has no source below the one before it
abbrev pub is_in_order : Option (List OMAPRecord) → Bool
is_in_order None = true
is_in_order (Some records) = are_sources_in_order records

-- no map's sources fall
pub record IsOrdered (m : Map) : Type 0 where
  pub to_internal : IsInOrder m.to_internal
  pub to_image : IsInOrder m.to_image

-- whether no map's sources fall
abbrev pub is_ordered : Map → Bool
is_ordered m = is_in_order m.to_internal && is_in_order m.to_image

-- the internal address of an image address
abbrev pub inner : Map → ℕ → Option ℕ
inner m a = translated m.to_internal a

-- the image address of an internal address
abbrev pub outer : Map → ℕ → Option ℕ
outer m x = translated m.to_image x

-- the internal place of an image address
abbrev pub inner_place : Map → ℕ → Option Place
inner_place m a = option_and_then (place m.internal) (inner m a)

-- the image's place of an internal address
abbrev pub outer_place : Map → ℕ → Option Place
outer_place m x = option_and_then (place m.image) (outer m x)

-- the internal address of a place of the image
abbrev pub inner_of_place : Map → ℕ → ℕ → Option ℕ
inner_of_place m section offset = option_and_then (inner m) (address m.image section offset)

-- the image address of an internal place
abbrev pub outer_of_place : Map → ℕ → ℕ → Option ℕ
outer_of_place m section offset = option_and_then (outer m) (address m.internal section offset)

-- the internal place of a place of the image
abbrev pub place_inside : Map → ℕ → ℕ → Option Place
place_inside m section offset = option_and_then (inner_place m) (address m.image section offset)

-- the image's place of an internal place
abbrev pub place_outside : Map → ℕ → ℕ → Option Place
place_outside m section offset = option_and_then (outer_place m) (address m.internal section offset)
