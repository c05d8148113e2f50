-- The offsets at which answers may change in the section of a place.
use Rattle.std.specs.Prelude.{ℕ, ◌==◌, List, [], ◌∷◌, ◌++◌, Option, if◌then◌else◌}
use Rattle.pdb_addresses.specs.SectionRun.{up_to_next}
use Rattle.std.specs.List.{flat_map}
use Rattle.pdb_addresses.specs.declared.internal_section_offset.PdbInternalSectionOffset.{
  PdbInternalSectionOffset,
}
use Rattle.pdb_contributions.specs.Publics.{PublicFunction}
use Rattle.pdb_module_data.specs.Procedures.{Procedure}
use Rattle.pdb_contributions.specs.SectionBounds.{contribution_bounds}
use Rattle.pdb_known_modules.specs.SectionBounds.{procedure_bounds}
use Rattle.pdb_frames.specs.Choice.{Parts}
use Rattle.pdb_known_modules.specs.KnownModules.{ModuleData, procedures_in}

-- the start of a public entry, if it lies in the section of a place
abbrev pub public_bounds : PdbInternalSectionOffset → PublicFunction → List ℕ
public_bounds p f =
    if (f.start_offset).section == p.section then (f.start_offset).offset ∷ [] else []

-- the starts and ends of contributions in the section of a place
abbrev pub contributions_near : Parts → PdbInternalSectionOffset → List ℕ
contributions_near p place = flat_map (contribution_bounds place) p.contributions

-- the starts of public entries in it
abbrev pub publics_near : List PublicFunction → PdbInternalSectionOffset → List ℕ
publics_near publics place = flat_map (public_bounds place) publics

-- the starts and ends of procedures in it
abbrev pub procedures_near : List Procedure → PdbInternalSectionOffset → List ℕ
procedures_near procedures place = flat_map (procedure_bounds place) procedures

-- the starts and ends of contributions and these procedures, and the starts of public entries, in
-- the section of a place

abbrev pub bounds_near : Parts → List Procedure → PdbInternalSectionOffset → List ℕ
bounds_near p procedures place =
    contributions_near p place ++ (publics_near p.publics place ++ procedures_near procedures place)

-- the lesser of a number and the distance from a place to the next procedure of a module
abbrev pub up_to_procedure : Option ModuleData → PdbInternalSectionOffset → ℕ → ℕ
up_to_procedure known place far =
    up_to_next (procedures_near (procedures_in known) place) place.offset far

-- the lesser of a number and the distance from a place to the next contribution or public entry
abbrev pub up_to_shared : Parts → PdbInternalSectionOffset → ℕ → ℕ
up_to_shared p place far =
    up_to_next (contributions_near p place) place.offset
    (up_to_next (publics_near p.publics place) place.offset far)

-- the lesser of a number and the distance from a place to the next bound, from the data of the
-- module that holds the place
abbrev pub up_to_bound : Parts → Option ModuleData → PdbInternalSectionOffset → ℕ → ℕ
up_to_bound p known place far =
    up_to_next (bounds_near p (procedures_in known) place) place.offset far
