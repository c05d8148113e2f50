-- Indices as numbers of 32 bits.
-- The meaning of bit 31 is from microsoft-pdb's cvinfo.h and the pdb crate.
use Rattle.std.specs.Prelude.{ℕ, ◌^◌, Bool, not, ◌==◌}
use Rattle.std.specs.Int.RustNames.{bit_and}

-- whether an index leads into another module: bit 31
abbrev pub is_cross_module : ℕ → Bool
is_cross_module n = not (bit_and n (2 ^ 31) == 0)
