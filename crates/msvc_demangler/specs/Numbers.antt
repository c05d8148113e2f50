-- Encoded numbers.
use Rattle.std.specs.Prelude.{ℕ, ◌+◌, ◌-◌, ◌*◌, ◌%◌, ◌^◌, ◌==◌, ◌&&◌, ◌||◌, nat_le, nat_lt, not}
use Rattle.std.specs.Prelude.{Bool, true, false, if◌then◌else◌, List, [], ◌∷◌, Option, None, Some}
use Rattle.std.specs.Prelude.{option_map, slice_index, take, drop, length}
use Rattle.std.specs.List.{prefix_len}
use Rattle.msvc_demangler.specs.Bytes.{is_digit}
use Rattle.msvc_demangler.specs.declared.numbers.Number.{Number}

-- a hexadecimal digit: A to P stand for 0 to 15
abbrev pub is_nibble : ℕ → Bool
is_nibble b = nat_le 65 b && nat_le b 80

-- the value of a hexadecimal digit
abbrev pub nibble_of : ℕ → Option ℕ
nibble_of b = if is_nibble b then Some (b - 65) else None

-- the value of hexadecimal digits after those that gave a value, modulo 2^64
abbrev pub value_after : ℕ → List ℕ → ℕ
value_after value [] = value
value_after value (b ∷ bs) = value_after ((value * 16 % 2 ^ 64 + (b - 65)) % 2 ^ 64) bs

-- the number that hexadecimal digits before @ stand for, and what comes after
unfoldable pub hexadecimal_of : List ℕ → Option (ℕ × List ℕ)
hexadecimal_of text =
    let count = prefix_len is_nibble text in
    if slice_index text count == 64
    then Some (value_after 0 (take count text), drop (count + 1) text) else None

-- a number without a sign, and what comes after: a decimal digit stands for 1 to 10
unfoldable pub magnitude_of : List ℕ → Option (ℕ × List ℕ)
magnitude_of text =
    if is_digit (slice_index text 0) then Some (slice_index text 0 - 48 + 1, drop 1 text)
    else hexadecimal_of text

-- a number with its sign, and what comes after
abbrev pub with_sign : Bool → ℕ × List ℕ → Number × List ℕ
with_sign is_negative n = (record { magnitude = n.0; is_negative = is_negative }, n.1)

-- a number, which has a minus sign after ?, and what comes after
unfoldable pub number_of : List ℕ → Option (Number × List ℕ)
number_of text =
    if slice_index text 0 == 63 then option_map (with_sign true) (magnitude_of (drop 1 text))
    else option_map (with_sign false) (magnitude_of text)

-- hexadecimal digits, @ and ?
unfoldable pub ends_scope : List ℕ → Bool
ends_scope text =
    let count = prefix_len is_nibble text in
    (slice_index text count == 64) && (slice_index text (count + 1) == 63)

-- the number of a local scope, from its first letter and what comes after, before ?: one digit, @,
-- or hexadecimal digits before @ of which the first isn't A
abbrev pub ends_number : ℕ → List ℕ → Bool
ends_number b text =
    if is_digit b || (b == 64) then slice_index text 0 == 63
    else (nat_le 66 b && nat_le b 80) && ends_scope text

-- a local scope: a number between ?
unfoldable pub begins_scope : List ℕ → Bool
begins_scope text =
    if nat_lt (length text) 2 || not (slice_index text 0 == 63) then false
    else ends_number (slice_index text 1) (drop 2 text)
