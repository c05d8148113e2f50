-- The names of inlined functions that a context caches.
use Rattle.std.specs.Prelude.{◌≡◌, ℕ, List, Option, Some, option_map}
use Rattle.std.specs.Arc.{arc_str_bytes}
use Rattle.pdb_resolving.specs.Resolving.{Provided}
use Rattle.pdb_type_printing.specs.Printing.{Formatting, env_of}
use Rattle.pdb_names.specs.Ids.{id_text}
use Rattle.pdb_names.specs.ByModule.{kept_at}
use Rattle.pdb_names.specs.StoredNames.{if_made}
use Rattle.pdb_names.specs.declared.inline_names.InlineNames.{InlineNames}

-- Each cached name is the text of its id in its module.
pub record AreNames (text : ℕ → ℕ → Option (List ℕ)) (names : InlineNames) : Type 0 where
  pub each : (m id : ℕ) (name : Option _) → kept_at names.by_id m id ≡ Some name
      → option_map arc_str_bytes name ≡ text m id

-- the name of an inlined function by its id, as the module with that index names it, if the id has
-- a text
abbrev pub inline_text : {P : Type 0} → (P → Provided) → Formatting P → ℕ → ℕ → Option (List ℕ)
inline_text provided f m id = if_made (id_text (env_of provided f m) id)
