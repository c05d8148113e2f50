-- Places of the image, taken as internal ones.
use Rattle.std.proofs.Common.{◌≡◌, refl}
use Rattle.std.specs.Prelude.{Option, None, Some, option_map}
use Rattle.pdb_addresses.specs.Places.{Place, image_place, internal_place, as_internal}

-- a place of the image, taken as an internal one, is the internal place
pub place_inside : (p : Option Place) → option_map as_internal (option_map image_place p)
    ≡ option_map internal_place p
place_inside None = refl
place_inside (Some p) = refl
