-- The characters of string literals.
use Rattle.std.specs.Prelude.{ℕ, ◌+◌, ◌*◌, ◌/◌, ◌%◌, ◌==◌, ◌&&◌, ◌||◌, nat_le, nat_lt, not}
use Rattle.std.specs.Prelude.{Bool, if◌then◌else◌, List, [], ◌∷◌, ◌++◌, Option, None, Some, codes}
use Rattle.std.specs.Prelude.{length}
use Rattle.std.specs.Prelude.{drop, position, unwrap_or, slice_index, count_by, option_map}
use Rattle.std.specs.Prelude.{option_and_then}
use Rattle.std.specs.List.{flat_map, suffix_len}
use Rattle.std.specs.Int.{to_be_bytes, w32}
use Rattle.msvc_demangler.specs.Bytes.{is_digit}
use Rattle.msvc_demangler.specs.Numbers.{nibble_of}
use Rattle.msvc_demangler.specs.Words.{Text}

-- the byte that a digit after ? stands for
abbrev pub mark : ℕ → ℕ
mark b =
    if b == 48 then 44
    else if b == 49 then 47
    else if b == 50 then 92
    else if b == 51 then 58
    else if b == 52 then 46
    else if b == 53 then 32
    else if b == 54 then 10
    else if b == 55 then 9
    else if b == 56 then 39
    else 45

-- a letter
abbrev pub is_letter : ℕ → Bool
is_letter b = (nat_le 97 b && nat_le b 122) || (nat_le 65 b && nat_le b 90)

-- the byte of two hexadecimal digits
abbrev pub byte_in : ℕ → ℕ → Option ℕ
byte_in high low =
    option_and_then (λ h. option_map (λ l. h * 16 + l) (nibble_of low)) (nibble_of high)

-- the byte of two hexadecimal digits at the head of a text, and what comes after
unfoldable pub by_nibbles : List ℕ → Option (ℕ × List ℕ)
by_nibbles text =
    if nat_lt (length text) 2 then None
    else option_map (λ b. (b, drop 2 text)) (byte_in (slice_index text 0) (slice_index text 1))

-- the byte after ?, and what comes after: two hexadecimal digits after $, a digit for a mark, or a
-- letter for the letter with its highest bit set
abbrev pub after_mark : ℕ → List ℕ → Option (ℕ × List ℕ)
after_mark b text =
    if b == 36 then by_nibbles text
    else (if is_digit b then Some (mark b, text)
    else (if is_letter b then Some (b + 128, text) else None))

-- the byte at the head of a text, and what comes after: a byte after ?, or the byte itself
unfoldable pub character_of : List ℕ → Option (ℕ × List ℕ)
character_of text =
    if nat_lt (length text) 1 then None
    else if not (slice_index text 0 == 63) then Some (slice_index text 0, drop 1 text)
    else if nat_lt (length text) 2 then None
    else after_mark (slice_index text 1) (drop 2 text)

-- the letter after a backslash that stands for a character, if there is one
abbrev pub escape : ℕ → Option ℕ
escape c =
    if c == 0 then Some 48
    else if c == 7 then Some 97
    else if c == 8 then Some 98
    else if c == 9 then Some 116
    else if c == 10 then Some 110
    else if c == 11 then Some 118
    else if c == 12 then Some 102
    else if c == 13 then Some 114
    else if c == 34 then Some 34
    else if c == 39 then Some 39
    else if c == 92 then Some 92
    else None

-- the digit of a number below 16, in upper case
abbrev pub digit : ℕ → ℕ
digit n = if nat_lt n 10 then 48 + n else 55 + n

-- the two digits of a byte
abbrev pub byte_digits : ℕ → Text
byte_digits b = digit (b / 16) ∷ digit (b % 16) ∷ []

-- bytes without the zeros before them
unfoldable pub significant : List ℕ → List ℕ
significant bytes = drop (unwrap_or (position (λ b. not (b == 0)) bytes) (length bytes)) bytes

-- a character as its bytes, or itself where it is printed as it is
abbrev pub by_bytes : ℕ → Text
by_bytes c =
    if nat_lt 31 c && nat_lt c 127 then c ∷ []
    else codes "\\x" ++ flat_map byte_digits (significant (to_be_bytes w32 c))

-- a character after a backslash, if a letter stands for it
abbrev pub escaped_or : Option ℕ → Text → Text
escaped_or None text = text
escaped_or (Some letter) text = 92 ∷ letter ∷ []

-- a character as it is written in a literal
unfoldable pub written : ℕ → Text
written c = escaped_or (escape c) (by_bytes c)

-- the number of bytes of a character, where that many bytes are 0, and 4 or 2 need so many
abbrev pub size_by : ℕ → ℕ → ℕ → ℕ → ℕ
size_by zeros for_four for_two size =
    if nat_le for_four zeros && (size % 4 == 0) then 4 else (if nat_le for_two zeros then 2 else 1)

-- The number of bytes of a character, from the first bytes of a string and its size. A short string
-- has a character 0 at its end, and of a longer one two thirds or one third of the bytes are 0.
unfoldable pub character_size : List ℕ → ℕ → ℕ
character_size bytes size =
    if size % 2 == 1 then 1
    else (if nat_lt size 32 then size_by (suffix_len (λ b. b == 0) bytes) 4 2 size
    else size_by (count_by (λ b. b == 0) bytes) (2 * length bytes / 3) (length bytes / 3) size)
