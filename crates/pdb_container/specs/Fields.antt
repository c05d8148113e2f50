-- Fields of bytes that are read in order: a field is a value and the bytes after it, or the fault
-- of what is missing. Strings are those of CodeView records (microsoft-pdb's cvinfo.h): ended by a
-- NUL, or after their length.
use Rattle.std.specs.Prelude.{ℕ, ℤ, zero, suc, ◌+◌, ◌-◌, List, [], ◌∷◌, length, take, drop, Option}
use Rattle.std.specs.Prelude.{Some, None, Result, Ok, Err, nat_lt, ◌==◌, if◌then◌else◌, position}
use Rattle.std.specs.Int.{Width, byte_len, from_le_bytes, cast_signed, next_multiple_of}
use Rattle.pdb_container.specs.Fault.{Fault, UnexpectedEof, ◌>>=◌}

-- a reading of one field: from bytes to its value and the bytes after it, or to the fault of what
-- is missing
abbrev pub Reader : Type 0 → Type 0
Reader A = List ℕ → Result (A × List ℕ) Fault

-- an unsigned number, its lowest byte first
abbrev pub number_at : Width → Reader ℕ
number_at w bytes =
    if nat_lt (length bytes) (byte_len w) then Err UnexpectedEof
    else Ok (from_le_bytes w (take (byte_len w) bytes), drop (byte_len w) bytes)

-- a number in two's complement, its lowest byte first
abbrev pub signed_at : Width → Reader ℤ
signed_at w bytes = number_at w bytes >>= λ x. Ok (cast_signed w x.0, x.1)

-- the number of bytes from a place to the next multiple of four
abbrev pub padding : ℕ → ℕ
padding place = next_multiple_of place 4 - place

-- the next n bytes
abbrev pub bytes_of : ℕ → Reader (List ℕ)
bytes_of n bytes =
    if nat_lt (length bytes) n then Err UnexpectedEof else Ok (take n bytes, drop n bytes)

-- the bytes before a NUL's place, and the bytes after it
abbrev pub cut_at : List ℕ → Option ℕ → Result (List ℕ × List ℕ) Fault
cut_at bytes None = Err UnexpectedEof
cut_at bytes (Some end) = Ok (take end bytes, drop (end + 1) bytes)

-- a C string: the bytes before the next NUL
unfoldable pub c_string_at : Reader (List ℕ)
c_string_at bytes = cut_at bytes (position (λ byte. byte == 0) bytes)

-- a Pascal string: the length in one byte, and so many bytes
unfoldable pub pascal_string_at : Reader (List ℕ)
pascal_string_at [] = Err UnexpectedEof
pascal_string_at (count ∷ bytes) = bytes_of count bytes

-- entries one after the other, in at most so many steps
unfoldable pub entries_within : {A : Type 0} → Reader A → ℕ → List ℕ → Result (List A) Fault
entries_within one steps [] = Ok []
entries_within one zero (b ∷ bytes) = Ok []
entries_within one (suc steps) (b ∷ bytes) = do
  first ← one (b ∷ bytes)
  others ← entries_within one steps first.1
  Ok (first.0 ∷ others)

-- Entries one after the other, to the end of the bytes. Each takes a byte at least, so there are
-- no more of them than bytes.
abbrev pub entries : {A : Type 0} → Reader A → List ℕ → Result (List A) Fault
entries one bytes = entries_within one (length bytes) bytes
