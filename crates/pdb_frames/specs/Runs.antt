-- Runs: the distance along a section over which the function stays.
use Rattle.std.specs.Prelude.{ℕ, Bool, ◌==◌, List, [], Option, None, Some, option_and_then}
use Rattle.std.specs.List.{list_any}
use Rattle.pdb_addresses.specs.declared.internal_section_offset.PdbInternalSectionOffset.{
  PdbInternalSectionOffset,
}
use Rattle.pdb_addresses.specs.Places.{internal_place}
use Rattle.pdb_contributions.specs.declared.contribution.ModuleSectionContribution.{
  ModuleSectionContribution,
}
use Rattle.pdb_contributions.specs.MergedContributions.{holder}
use Rattle.pdb_module_data.specs.Procedures.{Procedure}
use Rattle.pdb_owners.specs.Databases.{Database}
use Rattle.pdb_owners.specs.FunctionOrder.{Function}
use Rattle.pdb_frames.specs.Choice.{Parts, held_at}
use Rattle.pdb_frames.specs.NearBounds.{bounds_near}
use Rattle.pdb_frames.specs.FramesAt.{function_at}
use Rattle.pdb_frames.specs.Scopes.{Scope}
use Rattle.pdb_known_modules.specs.KnownModules.{module_data, procedures_in}

-- ---- where answers may change

-- the procedures of the module that a contribution belongs to; none without one
abbrev pub procedures_of : (ℕ → Scope) → Option ModuleSectionContribution → List Procedure
procedures_of scope None = []
procedures_of scope (Some c) = procedures_in (module_data (scope c.module_index).own)

-- An answer may change at a place: a contribution begins or ends there, a public entry begins
-- there, or a procedure of the module that holds the place begins or ends there.
abbrev pub is_bound : Parts → (ℕ → Scope) → PdbInternalSectionOffset → Bool
is_bound p scope place =
    list_any (λ bound. place.offset == bound)
    (bounds_near p (procedures_of scope (holder p.contributions place)) place)

-- ---- runs

-- the function at a place
abbrev pub function_here : Parts → (ℕ → Scope) → PdbInternalSectionOffset → Option Function
function_here p scope place =
    option_and_then (λ held. function_at p (scope (held.0).module_index) held.0 held.1)
    (held_at p (Some place))

-- the function at each place, and whether an answer may change there
abbrev pub database_of : Parts → (ℕ → Scope) → Database Function
database_of p scope = record {
  answer = λ place. function_here p scope (internal_place place);
  is_bound = λ place. is_bound p scope (internal_place place);
}
