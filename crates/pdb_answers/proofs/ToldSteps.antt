-- What is reported of the frames in a chosen function is what is reported of those at its place.
use Rattle.std.proofs.Common.{◌≡◌, ℕ, Option, Some, Result, sym, ap, ◌∙◌}
use Rattle.pdb_addresses.specs.declared.internal_section_offset.PdbInternalSectionOffset.{PdbInternalSectionOffset}
use Rattle.pdb_contributions.specs.declared.contribution.ModuleSectionContribution.{ModuleSectionContribution}
use Rattle.pdb_frames.specs.Choice.{Chosen, Parts, chosen}
use Rattle.pdb_frames.specs.FailingParts.{Failures, failing_in, failing_of_chosen, told}
use Rattle.pdb_frames.specs.Failing.{failing_at}
use Rattle.pdb_frames.specs.FramesAt.{frames_at, frames_of_chosen}
use Rattle.pdb_frames.specs.Printing.{Formatting, env_of}
use Rattle.pdb_frames.specs.Scopes.{scope_of}
use Rattle.pdb_owners.specs.Frames.{FunctionFrames}
use Rattle.pdb_known_modules.specs.KnownModules.{ModuleData, procedures_in}
use Rattle.pdb_resolving.specs.Fault.{Fault}
use Rattle.pdb_resolving.specs.Resolving.{Provided}
use Rattle.pdb_answers.specs.KnownFailures.{data_of_modules}

module _ {P : Type 0} (provided : P → Provided) (provider : P) (f : Formatting P) (p : Parts)
    (failed : Failures) (c : ModuleSectionContribution) (place : PdbInternalSectionOffset) where
  -- what is reported of what may be chosen, by the data of a module
  abbrev told_in : ℕ → Option ModuleData → Option Chosen → Result (Option FunctionFrames) Fault
  told_in n known found =
      told failed (failing_of_chosen n known found)
      (frames_of_chosen p (env_of provided f n) known place found)

  -- the same of what is chosen at the place
  abbrev told_there : ℕ → Option ModuleData → Result (Option FunctionFrames) Fault
  told_there n known = told_in n known (chosen p (procedures_in known) c place)

  pub told_chosen : (m : ℕ) (known : Option ModuleData) (found : Chosen)
      → data_of_modules provided provider f m ≡ known → m ≡ c.module_index
      → Some found ≡ chosen p (procedures_in known) c place
      → told failed (failing_in m known found)
      (frames_of_chosen p (env_of provided f m) known place (Some found))
      ≡ told failed (failing_at p (scope_of provided provider f c.module_index) c place)
      (frames_at p (scope_of provided provider f c.module_index) c place)
  unfolding frames_at data_of_modules
  told_chosen m known found own same is =
      ap (told_in m known) is ∙ ap (told_there m) (sym own)
      ∙ ap (λ (n : ℕ). told_there n (data_of_modules provided provider f n)) same
