-- Numbers in one, two or four bytes, as annotations spell them.
-- The layout is that of CVUncompressData in microsoft-pdb's cvinfo.h.
use Rattle.std.specs.Prelude.{ℕ, ℤ, ◌+◌, ◌*◌, ◌/◌, ◌%◌, ◌^◌, nat_lt, ◌==◌, if◌then◌else◌, Ok, Err}
use Rattle.std.specs.Int.{w8}
use Rattle.pdb_container.specs.Fault.{InvalidCompressedAnnotation, ◌>>=◌}
use Rattle.pdb_container.specs.Fields.{Reader, number_at}
use lib.IntN.{pos, neg_ℤ}

-- two bytes 10xxxxxx xxxxxxxx, of which the first was read
unfoldable pub second_at : ℕ → Reader ℕ
second_at first bytes = do
  second ← number_at w8 bytes
  Ok (first % 2 ^ 6 * 2 ^ 8 + second.0, second.1)

-- four bytes 110xxxxx xxxxxxxx xxxxxxxx xxxxxxxx, of which the first was read
unfoldable pub others_at : ℕ → Reader ℕ
others_at first bytes = do
  second ← number_at w8 bytes
  third ← number_at w8 second.1
  fourth ← number_at w8 third.1
  Ok (first % 2 ^ 5 * 2 ^ 24 + second.0 * 2 ^ 16 + third.0 * 2 ^ 8 + fourth.0, fourth.1)

-- the number after a first byte, which states the number of bytes
abbrev pub behind_first : ℕ → Reader ℕ
behind_first first bytes =
    if nat_lt first 0x80 then Ok (first, bytes)
    else (if nat_lt first 0xc0 then second_at first bytes
    else (if nat_lt first 0xe0 then others_at first bytes
    else Err InvalidCompressedAnnotation))

-- a compressed number, in one, two or four bytes
unfoldable pub compressed_at : Reader ℕ
compressed_at bytes = do
  first ← number_at w8 bytes
  behind_first first.0 first.1

-- a number whose sign is bit 0, with its magnitude in the others
abbrev pub signed_of : ℕ → ℤ
signed_of n = if n % 2 == 0 then pos (n / 2) else neg_ℤ (pos (n / 2))
