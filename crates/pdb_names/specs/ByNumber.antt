-- Values cached by the index of a module and a number in it, where places are numbered from 0 on.
use Rattle.std.specs.Prelude.{◌≡◌, ℕ, ◌==◌, List, Option, Some, cond, option_and_then, slice_get}
use Rattle.std.specs.Global.{Vec}
use Rattle.pdb_names.specs.declared.by_number.ByNumber.{ByNumber}

-- the value at a number in places, if there is one
abbrev pub kept_in : {V : Type 0} → List (Option V) → ℕ → Option V
kept_in places n = option_and_then (λ place. place) (slice_get places n)

-- the value at a number in a module's places, if it has places
abbrev pub kept_among : {V : Type 0} → Option (Vec (Option V)) → ℕ → Option V
kept_among places n = option_and_then (λ list. kept_in list.items n) places

-- the value that is cached at a number in the module with that index, if there is one
abbrev pub kept_at : {V : Type 0} → ByNumber V → ℕ → ℕ → Option V
kept_at kept m n = kept_among (slice_get kept.modules.items m) n

-- At each number the value is the same before and after.
pub record IsSamePlaces {V : Type 0} (before after : List (Option V)) : Type 0 where
  pub each : (n : ℕ) → kept_in after n ≡ kept_in before n

-- The value is at the number, and each other number has what it had before.
pub record IsPut {V : Type 0} (before after : List (Option V)) (number : ℕ) (value : V) :
    Type 0 where
  pub each : (n : ℕ) → kept_in after n ≡ cond (n == number) (Some value) (kept_in before n)
