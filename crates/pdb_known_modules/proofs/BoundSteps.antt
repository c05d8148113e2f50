-- The distance to the next start or end of a procedure, by sorted numbers.
use Rattle.std.proofs.Common.{◌≡◌, ℕ, ◌+◌, ◌^◌, ◌<◌, List, ◌∙◌}
use Rattle.std.specs.List.{flat_map}
use Rattle.pdb_addresses.proofs.RunSteps.{next_in_order}
use Rattle.pdb_addresses.specs.SectionRun.{up_to_next}
use Rattle.pdb_addresses.specs.declared.internal_section_offset.PdbInternalSectionOffset.{PdbInternalSectionOffset}
use Rattle.pdb_contributions.specs.BoundNumbers.{bound_number}
use Rattle.pdb_contributions.proofs.BoundSteps.{numbers_alike}
use Rattle.pdb_module_data.specs.Procedures.{Procedure}
use Rattle.pdb_known_modules.specs.Bounds.{procedure_numbers, AreProcedureBounds}
use Rattle.pdb_known_modules.specs.SectionBounds.{procedure_bounds}

-- the distance to the next start or end of a procedure, by their numbers in order
pub procedures_alike : (qs : List Procedure) (sorted : List ℕ) (p : PdbInternalSectionOffset) (far : ℕ) → p.offset < 2 ^ 32 → far < 2 ^ 32 → AreProcedureBounds qs sorted
    → up_to_next sorted (bound_number p.section p.offset) far ≡ up_to_next (flat_map (procedure_bounds p) qs) p.offset far
procedures_alike qs sorted p far lx lf moved =
    next_in_order (flat_map procedure_numbers qs) sorted (bound_number p.section p.offset) far moved
    ∙ numbers_alike (λ (q : Procedure). (q.offset).section) (λ (q : Procedure). (q.offset).offset) (λ (q : Procedure). (q.offset).offset + q.len) qs p.section p.offset far lx lf
