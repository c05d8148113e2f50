-- Values that are cached by the index of a module and a number in it, before and after a call.
use Rattle.std.specs.Prelude.{◌≡◌, ℕ, ◌&&◌, ◌==◌, Option, Some, cond}

-- Before and after, the cache holds equal values.
pub record IsSameKept {V : Type 0} (before after : ℕ → ℕ → Option V) : Type 0 where
  pub each : (m n : ℕ) → after m n ≡ before m n

-- A value is cached at a number in the module with that index, and all others are as before.
pub record IsKept {V : Type 0} (before after : ℕ → ℕ → Option V) (module_index number : ℕ)
    (value : V) : Type 0 where
  pub each : (m n : ℕ) → after m n ≡ cond (m == module_index && n == number) (Some value)
      (before m n)
