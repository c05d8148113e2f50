-- Addresses at which places may no longer follow one another.
use Rattle.std.specs.Prelude.{ℕ, ◌-◌, ◌^◌, Bool, false, not, ◌||◌, ◌==◌, is_some, is_none, List}
use Rattle.std.specs.Prelude.{Option, None, Some}
use Rattle.pdb_addresses.specs.declared.omap.OMAPRecord.{OMAPRecord}
use Rattle.pdb_addresses.specs.declared.sections.ImageSectionHeader.{ImageSectionHeader}
use Rattle.pdb_addresses.specs.Addresses.{Map, inner}
use Rattle.pdb_addresses.specs.Ranges.{number_for}
use Rattle.pdb_addresses.specs.SectionRun.{is_section_bound}

-- an address goes by another record of the OMAP than the one before it
abbrev pub begins_record : Option (List OMAPRecord) → ℕ → Bool
begins_record omap a = not (number_for omap (a - 1) == number_for omap a)

-- one of two addresses becomes something, and the other nothing
abbrev pub is_one_missing : Option ℕ → Option ℕ → Bool
is_one_missing None o = is_some o
is_one_missing (Some x) o = is_none o

-- an address becomes 0xffffffff, or an address at which a section begins or ends
abbrev pub is_bound_at : List ImageSectionHeader → Option ℕ → Bool
is_bound_at sections None = false
is_bound_at sections (Some x) = (x == 2 ^ 32 - 1) || is_section_bound sections x

-- Places may no longer follow one another at an address: it goes by another record than the address
-- before it, one of the two becomes something and the other nothing, it becomes 0xffffffff, or a
-- section begins or ends at its internal address.
abbrev pub breaks : Map → ℕ → Bool
breaks m a =
    begins_record m.to_internal a
    || (is_one_missing (inner m (a - 1)) (inner m a) || is_bound_at m.internal (inner m a))
