-- The cache of modules that were asked for.
use Rattle.std.specs.Prelude.{◌≡◌, ℕ, ◌≤◌, Bool, true, false, List, length, slice_get, Option}
use Rattle.std.specs.Prelude.{None, Some}
use Rattle.pdb_known_modules.specs.KnownModules.{ModuleData}

-- A slot for each module, in which its data are cached once they were read. The cached data are the
-- module's, and a module past all slots has no data.
pub record AreKept (own : ℕ → Option ModuleData) (slots : List (Option (Option ModuleData)))
    : Type 0 where
  pub each : (n : ℕ) (known : Option ModuleData) → slice_get slots n ≡ Some (Some known)
      → known ≡ own n
  pub past : (n : ℕ) → length slots ≤ n → own n ≡ None

-- a slot is there, and nothing is cached in it
abbrev pub is_empty : Option (Option (Option ModuleData)) → Bool
is_empty (Some None) = true
is_empty (Some (Some known)) = false
is_empty None = false

-- the data that are cached in a slot, if there are any
abbrev pub known_of : Option (Option (Option ModuleData)) → Option ModuleData
known_of (Some (Some known)) = known
known_of (Some None) = None
known_of None = None

-- the data that are cached of the module with that index
abbrev pub known_in : List (Option (Option ModuleData)) → ℕ → Option ModuleData
known_in slots n = known_of (slice_get slots n)
