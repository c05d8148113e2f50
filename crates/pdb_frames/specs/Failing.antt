-- The part that can't be read, of a module's parts from which the frames at an address are made.
use Rattle.std.specs.Prelude.{ℕ, Option, None, Some}
use Rattle.pdb_addresses.specs.declared.internal_section_offset.PdbInternalSectionOffset.{
  PdbInternalSectionOffset,
}
use Rattle.pdb_contributions.specs.declared.contribution.ModuleSectionContribution.{
  ModuleSectionContribution,
}
use Rattle.pdb_known_modules.specs.KnownModules.{module_data, procedures_in}
pub use Rattle.pdb_resolving.specs.declared.failures.Part.{Part}
pub use Rattle.pdb_resolving.specs.declared.failures.Part.TheVariants.{
  ExtendedModule,
  ProcedureLines,
  ProcedureInlineRanges,
}
use Rattle.pdb_frames.specs.Choice.{Parts, chosen, held_at, place_of}
use Rattle.pdb_frames.specs.FailingParts.{failing_of_chosen}
use Rattle.pdb_frames.specs.Scopes.{Scope}

-- the first part that fails in the module of a contribution, for a place that it holds
abbrev pub failing_at : Parts → Scope → ModuleSectionContribution → PdbInternalSectionOffset
    → Option Part
failing_at p s c place =
    failing_of_chosen c.module_index (module_data s.own)
    (chosen p (procedures_in (module_data s.own)) c place)

-- the same in the module that holds a place, where one does
abbrev pub failing_if_held : Parts → (ℕ → Scope)
    → Option (ModuleSectionContribution × PdbInternalSectionOffset) → Option Part
failing_if_held p scope None = None
failing_if_held p scope (Some held) = failing_at p (scope (held.0).module_index) held.0 held.1

-- the first part that fails, of the parts from which the frames at an address of the image are made
abbrev pub failing : Parts → (ℕ → Scope) → ℕ → Option Part
failing p scope a = failing_if_held p scope (held_at p (place_of p a))
