-- Bytes at the head of what is left of a name.
use Rattle.std.specs.Prelude.{ℕ, ◌==◌, ◌&&◌, nat_le, if◌then◌else◌, List, Bool, drop, slice_index}

-- a decimal digit
abbrev pub is_digit : ℕ → Bool
is_digit b = nat_le 48 b && nat_le b 57

-- a text that begins with a byte, which isn't 0
abbrev pub begins : ℕ → List ℕ → Bool
begins b text = slice_index text 0 == b

-- the rest of a text after a byte that may stand at its head
abbrev pub after_optional : ℕ → List ℕ → List ℕ
after_optional b text = if begins b text then drop 1 text else text
