-- The depth of the frames at an address.
use Rattle.std.specs.Prelude.{◌≡◌, ℕ, ◌+◌, List, length, slice_get, Option, None, Some}
use Rattle.std.specs.Prelude.{Result, Ok, Err}
use Rattle.pdb_container.specs.Fault as container
use Rattle.pdb_addresses.specs.declared.internal_section_offset.PdbInternalSectionOffset.{
  PdbInternalSectionOffset,
}
use Rattle.pdb_symbols_modules.specs.ModuleStream.{ModuleStream}
use Rattle.pdb_lines.specs.Inlinees.{InlinedFunction}
use Rattle.pdb_contributions.specs.declared.contribution.ModuleSectionContribution.{
  ModuleSectionContribution,
}
use Rattle.pdb_module_data.specs.Forest.{Site}
use Rattle.pdb_module_data.specs.InlinedCalls.{call_rows, deepest}
use Rattle.pdb_module_data.specs.Procedures.{Procedure}
use Rattle.pdb_resolving.specs.Fault.{Fault}
use Rattle.pdb_owners.specs.Frames.{Frame, FunctionFrames}
use Rattle.pdb_known_modules.specs.KnownModules.{ModuleData, ExtendedModule, extended_of}
use Rattle.pdb_known_modules.specs.KnownModules.{module_data, procedure_sites, procedures_in}
use Rattle.pdb_frames.specs.Choice.{Parts, Chosen, Proc, Public, chosen, held_at, place_of}
use Rattle.pdb_frames.specs.FramesAt as framing
use Rattle.pdb_frames.specs.Scopes.{Scope}

-- the depth of a site that may be there
abbrev pub depth_of : Option Site → ℕ
depth_of None = 0
depth_of (Some site) = site.depth

-- the depth of the site with that number; 0 without one
abbrev pub depth_at : List Site → Option ℕ → ℕ
depth_at sites None = 0
depth_at sites (Some number) = depth_of (slice_get sites number)

-- the depth of the deepest of a procedure's sites with a row over a place; 0 where there is none
abbrev pub depth_among : (ℕ → Option InlinedFunction) → Procedure → PdbInternalSectionOffset
    → Result (List Site) Fault → ℕ
depth_among inlinees q place (Ok sites) =
    depth_at sites (deepest (call_rows inlinees q.offset) sites place)
depth_among inlinees q place (Err e) = 0

-- the same in a chosen function, from its module's stream; a public entry has no sites
abbrev pub depth_by : ModuleStream → Result ExtendedModule container.Fault → Chosen
    → PdbInternalSectionOffset → ℕ
depth_by stream (Ok extended) (Proc q) place =
    depth_among extended.inlinees q place (procedure_sites stream q)
depth_by stream (Ok extended) (Public f) place = 0
depth_by stream (Err e) c place = 0

-- the same from the module's data, if it has some
abbrev pub depth_in : Option ModuleData → Chosen → PdbInternalSectionOffset → ℕ
depth_in None c place = 0
depth_in (Some known) c place = depth_by known.stream (extended_of known.stream) c place

-- The frames at an address: a contribution holds it and a function is chosen there, and the number
-- of frames is one more than the depth of the deepest site over the place.
pub record AreAsDeep (p : Parts) (scope : ℕ → Scope) (a : ℕ) (frames : List Frame) : Type 0 where
  pub holder : ModuleSectionContribution
  pub place : PdbInternalSectionOffset
  pub held : held_at p (place_of p a) ≡ Some (holder, place)
  pub function : Chosen
  pub is_chosen : chosen p (procedures_in (module_data (scope holder.module_index).own)) holder
      place ≡ Some function
  pub depth : length frames
      ≡ depth_in (module_data (scope holder.module_index).own) function place + 1

-- the frames of each answer are as deep as the sites over its place are
abbrev pub FramesAreAsDeep : Parts → (ℕ → Scope) → Type 0
FramesAreAsDeep p scope = (a : ℕ) (found : FunctionFrames)
    → framing.frames p scope a ≡ Ok (Some found) → AreAsDeep p scope a found.frames
