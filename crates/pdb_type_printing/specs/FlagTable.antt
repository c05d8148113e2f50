-- The flags of a formatter by their names and bits, and operations on sets of them as numbers.
use Rattle.std.specs.Prelude.{ℕ, ◌-◌, ◌^◌, List, [], ◌∷◌, codes, bit_and}

-- each flag's name and its bit
abbrev pub flag_table : List (List ℕ × ℕ)
flag_table =
    (codes "NO_FUNCTION_RETURN", 1)
    ∷ (codes "NO_MEMBER_FUNCTION_STATIC", 2)
    ∷ (codes "SPACE_AFTER_COMMA", 4)
    ∷ (codes "SPACE_BEFORE_POINTER", 8)
    ∷ (codes "NAME_ONLY", 16)
    ∷ (codes "NO_ARGUMENTS", 32)
    ∷ []

-- the bits of x that y lacks, of 32
abbrev pub bits_without : ℕ → ℕ → ℕ
bits_without x y = bit_and x (2 ^ 32 - 1 - y)

-- the bits that x lacks, of the six known ones
abbrev pub missing_bits : ℕ → ℕ
missing_bits x = bit_and (2 ^ 32 - 1 - x) 63
