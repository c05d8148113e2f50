-- Numbers that are addresses: of 32 bits.
use Rattle.std.specs.Prelude.{ℕ, ◌+◌, ◌-◌, ◌^◌, ◌%◌, nat_lt, Option, None, Some, if◌then◌else◌}
use Rattle.pdb_addresses.specs.declared.rva.Rva.{Rva}
use Rattle.pdb_addresses.specs.declared.internal_rva.PdbInternalRva.{PdbInternalRva}

-- a number, if it fits 32 bits
abbrev pub in_32_bits : ℕ → Option ℕ
in_32_bits n = if nat_lt n (2 ^ 32) then Some n else None

-- the distance of a number past another one, if it lies no lower
abbrev pub distance : ℕ → ℕ → Option ℕ
distance from to = if nat_lt to from then None else Some (to - from)

-- the distance of a number past another one, around the end of 32 bits
abbrev pub distance_around : ℕ → ℕ → ℕ
distance_around from to = (to + (2 ^ 32 - from)) % 2 ^ 32

-- a number as an address of the image
abbrev pub image_address : ℕ → Rva
image_address n = record { 0 = n }

-- a number as an internal address
abbrev pub internal_address : ℕ → PdbInternalRva
internal_address n = record { 0 = n }
