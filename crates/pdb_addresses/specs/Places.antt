-- Places in sections, and their comparison.
use Rattle.std.specs.Prelude.{ℕ, ◌==◌, Option, None, Some, if◌then◌else◌}
use Rattle.std.specs.declared.cmp.Ordering.{Ordering}
use Rattle.std.specs.Ordering.{nat_cmp}
use Rattle.pdb_addresses.specs.declared.section_offset.SectionOffset.{SectionOffset}
use Rattle.pdb_addresses.specs.declared.internal_section_offset.PdbInternalSectionOffset.{
  PdbInternalSectionOffset,
}

-- a section's number, counted from 1, and an offset in it
pub record Place : Type 0 where
  pub section : ℕ
  pub offset : ℕ

-- places in one section compare by their offsets, places in two sections not at all
abbrev pub compared : ℕ → ℕ → ℕ → ℕ → Option Ordering
compared section offset section' offset' =
    if section == section' then Some (nat_cmp offset offset')
    else None

-- a place as one of the image
abbrev pub image_place : Place → SectionOffset
image_place p = record { offset = p.offset; section = p.section }

-- a place as an internal one
abbrev pub internal_place : Place → PdbInternalSectionOffset
internal_place p = record { offset = p.offset; section = p.section }

-- the same numbers as an internal place
abbrev pub as_internal : SectionOffset → PdbInternalSectionOffset
as_internal p = record { offset = p.offset; section = p.section }

-- another offset in the section of a place of the image
abbrev pub image_place_at : SectionOffset → ℕ → SectionOffset
image_place_at p offset = record { offset = offset; section = p.section }

-- another offset in the section of an internal place
abbrev pub internal_place_at : PdbInternalSectionOffset → ℕ → PdbInternalSectionOffset
internal_place_at p offset = record { offset = offset; section = p.section }
