-- The text between arguments, and copies of an argument's text.
use Rattle.std.specs.Prelude.{ℕ, ◌++◌, codes, replicate, if◌then◌else◌}
use Rattle.std.specs.List.{concat}
use Rattle.pdb_container.specs.Bits.{has_bit}
use Rattle.pdb_type_printing.specs.Printed.{Text}

-- the text between arguments: a comma, and a space under flag 4 (SPACE_AFTER_COMMA)
abbrev pub comma : ℕ → Text
comma flags = if has_bit flags 4 then codes ", " else codes ","

-- an argument's text that many times, with a comma before each
abbrev pub copies : ℕ → Text → ℕ → Text
copies flags argument n = concat (replicate n (comma flags ++ argument))
