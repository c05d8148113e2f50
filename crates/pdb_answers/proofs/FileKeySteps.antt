-- Runs of files by keys: they say what the files at places are, and where these may change.
use Rattle.std.proofs.Common.{◌≡◌, ℕ, ◌≤◌, Option, Some, sym, ap, ◌∙◌}
use Rattle.std.specs.Prelude.{option_and_then}
use Rattle.pdb_addresses.specs.SectionRun.{up_to_next}
use Rattle.pdb_addresses.specs.declared.internal_section_offset.PdbInternalSectionOffset.{PdbInternalSectionOffset}
use Rattle.pdb_contributions.specs.MergedContributions.{holder}
use Rattle.pdb_contributions.specs.declared.contribution.ModuleSectionContribution.{ModuleSectionContribution}
use Rattle.pdb_frames.proofs.FileRunLaw.{file_by_holder, file_run_by_holder}
use Rattle.pdb_frames.proofs.FileRunSteps.{is_file_run}
use Rattle.pdb_frames.specs.Choice.{Parts}
use Rattle.pdb_frames.specs.FileRuns.{file_run_at}
use Rattle.pdb_frames.specs.Files.{file_by, file_here, files_of, if_any}
use Rattle.pdb_frames.specs.NearBounds.{bounds_near}
use Rattle.pdb_frames.specs.Runs.{procedures_of}
use Rattle.pdb_frames.specs.Scopes.{Scope}
use Rattle.pdb_owners.specs.Databases.{IsOneRun, place_of}
use Rattle.pdb_owners.specs.declared.file_key.FileKey.{FileKey}

module _ (p : Parts) (scope : ℕ → Scope) (place : PdbInternalSectionOffset) (limit : ℕ)
    (c : ModuleSectionContribution) (run : Option FileKey × ℕ) where
  -- the run at the place, which the contribution holds
  abbrev pub IsRunAt : Type 0
  IsRunAt =
      run ≡ file_run_at p (scope c.module_index) c place
      (up_to_next (bounds_near p (procedures_of scope (Some c)) place) place.offset limit)

  -- its key stands for the file at the place
  pub run_file : Some c ≡ holder p.contributions place → IsRunAt
      → if_any (file_here p scope place) ≡ option_and_then (file_by p) run.0
  run_file held is =
      let far = up_to_next (bounds_near p (procedures_of scope (Some c)) place) place.offset limit in
      ap (λ h. if_any (file_by_holder p scope h place)) (sym held)
      ∙ sym (is_file_run p scope c place far).file
      ∙ ap (λ (r : Option FileKey × ℕ). option_and_then (file_by p) r.0) (sym is)

  -- and its length is how far that file goes on
  pub run_count : 1 ≤ limit → Some c ≡ holder p.contributions place → IsRunAt
      → IsOneRun (files_of p scope) (place_of place) limit run.1
  run_count some held is =
      let far = up_to_next (bounds_near p (procedures_of scope (Some c)) place) place.offset limit in
      file_run_by_holder p scope place limit run.1 (Some c) some held
      (ap (λ (r : Option FileKey × ℕ). r.1) is ∙ (is_file_run p scope c place far).count)
