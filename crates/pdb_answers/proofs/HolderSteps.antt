-- What holds a place, and how far its next bound is, where a symbolizer's parts were asked for it.
use Rattle.std.proofs.Common.{◌≡◌, ℕ, [], Option, sym, ap, ◌∙◌}
use Rattle.pdb_addresses.specs.SectionRun.{up_to_next}
use Rattle.pdb_addresses.specs.declared.internal_section_offset.PdbInternalSectionOffset.{
  PdbInternalSectionOffset,
}
use Rattle.pdb_answers.specs.Symbolizers.{Symbolizer}
use Rattle.pdb_contributions.specs.MergedContributions.{holder}
use Rattle.pdb_contributions.specs.declared.contribution.ModuleSectionContribution.{
  ModuleSectionContribution,
}
use Rattle.pdb_frames.specs.NearBounds.{bounds_near}

module _ {P : Type 0} (asked s : Symbolizer P) (same : asked ≡ s)
    (place : PdbInternalSectionOffset) where
  -- what was found is what holds the place
  pub holder_is : (found held : Option ModuleSectionContribution) → found ≡ held
      → found ≡ holder asked.parts.contributions place → held ≡ holder s.parts.contributions place
  holder_is found held is asked_is =
      sym is ∙ asked_is ∙ ap (λ (s : Symbolizer P). holder s.parts.contributions place) same

  -- what was counted is how far the next bound is of those that all modules share
  pub bound_is : (limit far : ℕ)
      → far ≡ up_to_next (bounds_near asked.parts [] place) place.offset limit
      → far ≡ up_to_next (bounds_near s.parts [] place) place.offset limit
  bound_is limit far is =
      is ∙ ap (λ (s : Symbolizer P). up_to_next (bounds_near s.parts [] place) place.offset limit)
      same
