-- The blanks and the words of a line, as llvm-symbolizer tells them apart.
use Rattle.std.specs.Prelude.{ℕ, ◌-◌, ◌==◌, ◌||◌, ◌&&◌, nat_le, not, Bool, List, length, take, drop}
use Rattle.std.specs.Prelude.{position, unwrap_or}
use Rattle.std.specs.List.{list_all, suffix_len}

-- a blank: a space, or a byte from tab (9) to carriage return (13)
abbrev pub is_blank : ℕ → Bool
is_blank b = (b == 32) || (nat_le 9 b && nat_le b 13)

-- a byte that ends a word: a space, a newline or a carriage return, and no other blank
abbrev pub ends_word : ℕ → Bool
ends_word b = (b == 32) || ((b == 10) || (b == 13))

-- a text without the blanks before it
unfoldable pub after_blanks : List ℕ → List ℕ
after_blanks text = drop (unwrap_or (position (λ b. not (is_blank b)) text) (length text)) text

-- a text without the blanks before and after it
unfoldable pub trimmed : List ℕ → List ℕ
trimmed text = let from = after_blanks text in take (length from - suffix_len is_blank from) from

-- the number of bytes before the end of the first word
unfoldable pub word_end : List ℕ → ℕ
word_end text = unwrap_or (position ends_word text) (length text)

-- 0 to 9, a to f, A to F
abbrev pub is_hexadecimal : ℕ → Bool
is_hexadecimal b =
    (nat_le 48 b && nat_le b 57) || ((nat_le 97 b && nat_le b 102) || (nat_le 65 b && nat_le b 70))

abbrev pub are_hexadecimal : List ℕ → Bool
are_hexadecimal text = list_all is_hexadecimal text
