-- The names of procedures by their types that a context caches.
use Rattle.std.specs.Prelude.{◌≡◌, ℕ, List, Option, Some, option_map}
use Rattle.std.specs.Arc.{arc_str_bytes}
use Rattle.std.specs.Str.Lossy.{utf8_lossy}
use Rattle.pdb_container.specs.RawString.{raw_bytes}
use Rattle.pdb_module_data.specs.Procedures.{Procedure}
use Rattle.pdb_resolving.specs.Resolving.{Provided}
use Rattle.pdb_type_printing.specs.Printing.{Formatting, env_of}
use Rattle.pdb_names.specs.Functions.{function_text}
use Rattle.pdb_names.specs.ByNumber.{kept_at}
use Rattle.pdb_names.specs.StoredNames.{if_made}
use Rattle.pdb_names.specs.declared.typed_names.TypedName.{TypedName}
use Rattle.pdb_names.specs.declared.typed_names.TypedNames.{TypedNames}

-- the procedure has the name and the type that this name was made of
pub record IsNamedBy (q : Procedure) (name : TypedName) : Type 0 where
  pub raw : q.name ≡ raw_bytes name.raw
  pub type : q.type_index ≡ name.type_index

-- Each cached name is the text of the name and the type that it was made of, in its module.
pub record AreTyped (text : ℕ → List ℕ → ℕ → Option (List ℕ)) (names : TypedNames) : Type 0 where
  pub each : (m number : ℕ) (name : TypedName) → kept_at names.by_number m number ≡ Some name
      → option_map arc_str_bytes name.text ≡ text m (raw_bytes name.raw) (name.type_index).0

-- the name of a function by its stored name and its type in the module with that index, if it has a
-- text
abbrev pub typed_text : {P : Type 0} → (P → Provided) → Formatting P → ℕ → List ℕ → ℕ
    → Option (List ℕ)
typed_text provided f m raw type =
    if_made (function_text (env_of provided f m) (utf8_lossy raw) type)
