-- Brackets of arrays of arrays.
use Rattle.std.specs.Prelude.{ℕ, ◌/◌, List, [], ◌∷◌, ◌++◌, codes, if◌then◌else◌, ◌==◌}
use Rattle.std.specs.Fmt.{decimal}
use Rattle.pdb_type_printing.specs.Printed.{Text}

-- the first dimension, which a parsed array has
abbrev pub first_or_zero : List ℕ → ℕ
first_or_zero [] = 0
first_or_zero (d ∷ dimensions) = d

-- the number of elements of n bytes that make d bytes, in brackets
abbrev pub bracket : ℕ → ℕ → Text
bracket d n = if n == 0 then codes "[]" else codes "[" ++ (decimal (d / n) ++ codes "]")

-- the next array's dimension, or the innermost element's size
abbrev pub first_or : ℕ → List ℕ → ℕ
first_or size [] = size
first_or size (d ∷ dimensions) = d

-- the brackets of arrays, the outer first, over an element of that many bytes
abbrev pub brackets : List ℕ → ℕ → Text
brackets [] size = []
brackets (d ∷ dimensions) size = bracket d (first_or size dimensions) ++ brackets dimensions size
