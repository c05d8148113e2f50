-- The RVA of an address in its image.
use Rattle.std.specs.Prelude.{ℕ, ◌+◌, ◌-◌, ◌%◌, ◌^◌, nat_lt, if◌then◌else◌, Bool, Option}
use Rattle.std.specs.Prelude.{None, Some}

-- the distance of an address from the start of an image, modulo 2^64
abbrev pub offset_from : ℕ → ℕ → ℕ
offset_from start address = (2 ^ 64 + address - start) % 2 ^ 64

-- The RVA of an address. The image starts at its base, moved up by adjust; relative addresses
-- begin at 0 in place of the base.
unfoldable pub rva_of : ℕ → ℕ → ℕ → Bool → Option ℕ
rva_of address image_base adjust relative =
    let start = if relative then 0 else image_base in
    let offset = offset_from start (offset_from adjust address) in
    if nat_lt offset (2 ^ 32) then Some offset else None
