-- Bits of numbers.
use Rattle.std.specs.Prelude.{ℕ, Bool, not, ◌==◌, bit_and}

-- whether a bit of the mask is set
abbrev pub has_bit : ℕ → ℕ → Bool
has_bit n mask = not (bit_and n mask == 0)
