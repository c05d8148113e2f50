-- The starts and ends of procedures in one section.
use Rattle.std.specs.Prelude.{ℕ, ◌+◌, ◌==◌, List}
use Rattle.pdb_addresses.specs.declared.internal_section_offset.PdbInternalSectionOffset.{
  PdbInternalSectionOffset,
}
use Rattle.pdb_contributions.specs.SectionBounds.{if_there}
use Rattle.pdb_module_data.specs.Procedures.{Procedure}

-- the start and the end of a procedure, if it lies in the section of a place; the end may lie past
-- 32 bits
abbrev pub procedure_bounds : PdbInternalSectionOffset → Procedure → List ℕ
procedure_bounds p q = if_there ((q.offset).section == p.section) (q.offset).offset
    ((q.offset).offset + q.len)
