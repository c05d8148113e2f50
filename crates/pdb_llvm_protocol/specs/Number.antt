-- The number that a word stands for, as LLVM's `getAsInteger` reads it in no given radix.
use Rattle.std.specs.Prelude.{ℕ, ◌+◌, ◌-◌, ◌*◌, ◌^◌, ◌==◌, nat_lt, nat_le, ◌&&◌, ◌||◌, Bool}
use Rattle.std.specs.Prelude.{if◌then◌else◌, List, [], ◌∷◌, length, drop, slice_index, Option, None}
use Rattle.std.specs.Prelude.{Some, option_and_then}

-- 0 to 9
abbrev pub is_digit : ℕ → Bool
is_digit b = nat_le 48 b && nat_le b 57

-- the value of a digit: of 0 to 9, and of a letter in either case from 10 on
abbrev pub digit_of : ℕ → Option ℕ
digit_of b =
    if is_digit b then Some (b - 48)
    else (if nat_le 97 b && nat_le b 122 then Some (b - 97 + 10)
    else (if nat_le 65 b && nat_le b 90 then Some (b - 65 + 10) else None))

-- a number that is less than a bound
abbrev pub below : ℕ → ℕ → Option ℕ
below bound n = if nat_lt n bound then Some n else None

-- the value of digits after a value, each digit below the radix
abbrev pub value_from : ℕ → ℕ → List ℕ → Option ℕ
value_from radix value [] = Some value
value_from radix value (b ∷ bs) =
    option_and_then (λ d. value_from radix (value * radix + d) bs)
    (option_and_then (below radix) (digit_of b))

-- the radix from the byte after a leading 0, and the place at which the digits begin: 0x 0b 0o, or
-- a digit
abbrev pub after_zero : ℕ → ℕ × ℕ
after_zero b =
    if (b == 120) || (b == 88) then (16, 2)
    else (if (b == 98) || (b == 66) then (2, 2)
    else (if b == 111 then (8, 2) else (if is_digit b then (8, 0) else (10, 0))))

-- the radix of a word, and the place at which its digits begin
abbrev pub prefix_of : List ℕ → ℕ × ℕ
prefix_of word =
    if nat_le 2 (length word) && (slice_index word 0 == 48) then after_zero (slice_index word 1)
    else (10, 0)

-- the radix that a word is written in, and its digits
unfoldable pub written : List ℕ → ℕ × List ℕ
written word = let p = prefix_of word in (p.0, drop p.1 word)

-- the value of one digit or more, which is below 2^64
unfoldable pub value_in : ℕ → List ℕ → Option ℕ
value_in radix digits =
    if length digits == 0 then None
    else option_and_then (below (2 ^ 64)) (value_from radix 0 digits)

-- the number that a word stands for, if it does
unfoldable pub number_of : List ℕ → Option ℕ
number_of word = let w = written word in value_in w.0 w.1

-- a word without 0x or 0X before it
abbrev pub without_0x : List ℕ → List ℕ
without_0x word =
    if nat_le 2 (length word) && ((slice_index word 0 == 48)
    && ((slice_index word 1 == 120) || (slice_index word 1 == 88))) then drop 2 word else word

-- the number that a word of hexadecimal digits stands for, after 0x or not
unfoldable pub hexadecimal_of : List ℕ → Option ℕ
hexadecimal_of word = value_in 16 (without_0x word)
