-- The address that a line stands for.
use Rattle.std.specs.Prelude.{ℕ, ◌-◌, ◌==◌, nat_lt, nat_le, Bool, ◌&&◌, ◌||◌, if◌then◌else◌}
use Rattle.std.specs.Prelude.{List, length, take, drop, slice_index, Option, None, Some}
use Rattle.std.specs.Char.{is_digit}
use Rattle.std.specs.List.{list_all}
use Rattle.std.specs.Str.Parse.{digits_value}

-- a line without one carriage return at its end
abbrev pub without_return : List ℕ → List ℕ
without_return line =
    if nat_lt 0 (length line) && (slice_index line (length line - 1) == 13)
    then take (length line - 1) line else line

-- a line without a prefix `0x` or `0X`
abbrev pub without_prefix : List ℕ → List ℕ
without_prefix line =
    if (nat_le 2 (length line) && (slice_index line 0 == 48))
    && ((slice_index line 1 == 120) || (slice_index line 1 == 88)) then drop 2 line else line

-- whether these are one to eight hexadecimal digits
abbrev pub is_short_number : List ℕ → Bool
is_short_number digits =
    nat_le 1 (length digits) && nat_le (length digits) 8 && list_all (λ b. is_digit b 16) digits

-- the value of one to eight hexadecimal digits; other bytes have none
abbrev pub value_of : List ℕ → Option ℕ
value_of digits = if is_short_number digits then Some (digits_value 16 digits) else None

-- the address that a line stands for, if it is one
abbrev pub address_of : List ℕ → Option ℕ
address_of line = value_of (without_prefix (without_return line))
