-- Names of streams as the code stores them.
use Rattle.std.specs.Prelude.{ℕ, ◌+◌, Bool, not, List, [], ◌∷◌, map, nat_lt, ◌==◌, if◌then◌else◌}
use Rattle.std.specs.Global.{Vec}
use Rattle.pdb_container.specs.RawString.{raw_bytes}
use Rattle.pdb_symbols_modules.specs.Information as information
use Rattle.pdb_symbols_modules.specs.declared.information.StreamName.{StreamName}

-- the code's entry for a stream's name, as the definitions see it
abbrev pub stream_name_seen : StreamName → information.StreamName
stream_name_seen s = record { name = raw_bytes s.name; stream_id = s.stream_id.0 }

-- the places of the NULs among bytes, of which the first stands at a place
unfoldable pub nul_places : ℕ → List ℕ → List ℕ
nul_places at [] = []
nul_places at (b ∷ bytes) =
    if b == 0 then at ∷ nul_places (at + 1) bytes
    else nul_places (at + 1) bytes

-- a place that isn't below an offset
abbrev pub is_reached : ℕ → ℕ → Bool
is_reached offset place = not (nat_lt place offset)

-- the code's entries for streams' names, as the definitions see them
abbrev pub stream_names_seen : Vec StreamName → List information.StreamName
stream_names_seen entries = map stream_name_seen entries.items
