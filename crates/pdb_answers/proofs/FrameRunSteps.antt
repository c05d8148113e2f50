-- Runs of frames: they say what the frames at places are, and where these may change.
use Rattle.std.proofs.Common.{◌≡◌, ℕ, ◌≤◌, List, Option, None, Some, Result, Ok, Err, refl, sym}
use Rattle.std.proofs.Common.{ap, ◌∙◌}
use Rattle.pdb_addresses.specs.SectionRun.{up_to_next}
use Rattle.pdb_addresses.specs.declared.internal_section_offset.PdbInternalSectionOffset.{
  PdbInternalSectionOffset,
}
use Rattle.pdb_answers.proofs.FaultSteps.{IsFault, frames_fault}
use Rattle.pdb_answers.specs.KnownFailures.{data_of_modules}
use Rattle.pdb_contributions.specs.MergedContributions.{holder}
use Rattle.pdb_contributions.specs.declared.contribution.ModuleSectionContribution.{
  ModuleSectionContribution,
}
use Rattle.pdb_frames.proofs.FrameRunLaw.{frames_by_holder, frames_run_by_holder}
use Rattle.pdb_frames.specs.Choice.{Parts, Chosen, chosen}
use Rattle.pdb_frames.specs.FailingParts.{failing_in}
use Rattle.pdb_frames.specs.Failing.{Part}
use Rattle.pdb_frames.specs.FrameRuns.{cuts_if_chosen, cuts_in, frames_here, frames_of_places}
use Rattle.pdb_frames.specs.FrameRuns.{frames_run_at, readable, run_of_answer}
use Rattle.pdb_frames.specs.FramesAt.{frames_at, frames_of_chosen}
use Rattle.pdb_frames.specs.NearBounds.{bounds_near}
use Rattle.pdb_frames.specs.Printing.{Formatting, env_of}
use Rattle.pdb_frames.specs.Runs.{procedures_of}
use Rattle.pdb_frames.specs.Scopes.{Scope, scope_of}
use Rattle.pdb_owners.specs.Databases.{IsOneRun, place_of}
use Rattle.pdb_owners.specs.Frames.{FunctionFrames}
use Rattle.pdb_known_modules.specs.KnownModules.{ModuleData, procedures_in}
use Rattle.pdb_resolving.specs.Fault.{Fault}
use Rattle.pdb_resolving.specs.Resolving.{Provided}

-- ---- in a chosen function

of_fault : (answer : Result (Option FunctionFrames) Fault) (cuts : List ℕ)
    (place : PdbInternalSectionOffset) (far : ℕ) → IsFault answer
    → run_of_answer answer cuts place far ≡ (None, far)
of_fault (Ok frames) cuts place far h = absurd h
of_fault (Err e) cuts place far h = refl

-- where a part is known as the first that can't be read, there are no frames up to the next bound
pub known_unreadable : (p : Parts) (env : _) (m : ℕ) (known : Option ModuleData) (c : Chosen)
    (place : PdbInternalSectionOffset) (far : ℕ) (part : Part)
    → failing_in m known c ≡ Some part
    → run_of_answer (frames_of_chosen p env known place (Some c)) (cuts_in known c) place far
    ≡ (None, far)
known_unreadable p env m known c place far part h =
    of_fault (frames_of_chosen p env known place (Some c)) (cuts_in known c) place far
    (frames_fault p env m known c place part h)

-- ---- at a place that a contribution holds
module _ {P : Type 0} (provided : P → Provided) (provider : P) (f : Formatting P) (p : Parts)
    (c : ModuleSectionContribution) (place : PdbInternalSectionOffset) (limit : ℕ) where
  -- how far the function goes on, by the data of its module
  abbrev far_in : Option ModuleData → ℕ
  far_in known = up_to_next (bounds_near p (procedures_in known) place) place.offset limit

  -- the run in what may be chosen, by the data of a module
  abbrev run_in : ℕ → Option ModuleData → ℕ → Option Chosen → Option FunctionFrames × ℕ
  run_in n known far found =
      run_of_answer (frames_of_chosen p (env_of provided f n) known place found)
      (cuts_if_chosen known found) place far

  -- the same in what is chosen at the place
  abbrev run_there : ℕ → Option ModuleData → Option FunctionFrames × ℕ
  run_there n known = run_in n known (far_in known) (chosen p (procedures_in known) c place)

  -- the run in the module that has these data, up to the next bound, is that at the place
  pub run_chosen : (m : ℕ) (known : Option ModuleData) (far : ℕ) (found : Option Chosen)
      → data_of_modules provided provider f m ≡ known → m ≡ c.module_index → far ≡ far_in known
      → found ≡ chosen p (procedures_in known) c place
      → run_in m known far found
      ≡ frames_run_at p (scope_of provided provider f c.module_index) c place
      (up_to_next (bounds_near p (procedures_of (scope_of provided provider f) (Some c)) place)
      place.offset limit)
  unfolding frames_at data_of_modules
  run_chosen m known far found own same to_bound is =
      ap (λ (n : ℕ). run_in m known n found) to_bound
      ∙ ap (run_in m known (far_in known)) is ∙ ap (run_there m) (sym own)
      ∙ ap (λ (n : ℕ). run_there n (data_of_modules provided provider f n)) same

-- ---- what a run says
module _ (p : Parts) (scope : ℕ → Scope) (place : PdbInternalSectionOffset) (limit : ℕ)
    (c : ModuleSectionContribution) (run : Option FunctionFrames × ℕ) where
  -- the run at the place, which the contribution holds
  abbrev pub IsRunAt : Type 0
  IsRunAt =
      run ≡ frames_run_at p (scope c.module_index) c place
      (up_to_next (bounds_near p (procedures_of scope (Some c)) place) place.offset limit)

  -- its frames are those at the place
  pub run_frames : Some c ≡ holder p.contributions place → IsRunAt
      → readable (frames_here p scope place) ≡ run.0
  run_frames held is =
      ap (λ h. readable (frames_by_holder p scope h place)) (sym held)
      ∙ ap (λ (r : Option FunctionFrames × ℕ). r.0) (sym is)

  -- and its length is how far these go on
  pub run_count : 1 ≤ limit → Some c ≡ holder p.contributions place → IsRunAt
      → IsOneRun (frames_of_places p scope) (place_of place) limit run.1
  run_count some held is =
      frames_run_by_holder p scope place limit run.1 (Some c) some held
      (ap (λ (r : Option FunctionFrames × ℕ). r.1) is)
