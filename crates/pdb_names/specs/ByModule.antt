-- Values that are cached by the index of a module and a number in it.
use Rattle.std.specs.Prelude.{ℕ, Option, option_and_then, slice_get}
use Rattle.std.specs.Ordering.{nat_cmp}
use Rattle.std.specs.BTreeMap.{BTreeMap, get}
use Rattle.pdb_names.specs.declared.by_module.ByModule.{ByModule}

-- the value that is cached under a number among a module's, if they have a place
abbrev pub kept_among : {V : Type 0} → Option (BTreeMap ℕ V) → ℕ → Option V
kept_among values n = option_and_then (λ map. get nat_cmp map n) values

-- the value that is cached under a number in the module with that index, if there is one
abbrev pub kept_at : {V : Type 0} → ByModule V → ℕ → ℕ → Option V
kept_at kept m n = kept_among (slice_get kept.modules.items m) n
