-- Answers change at bounds alone: a place that is none has the answer of the place before it.
use Rattle.std.proofs.Common.{◌≡◌, ℕ, ◌+◌, ◌<◌, ◌≤◌, false, ◌++◌, List, ap, ◌∙◌, subst, arith}
use Rattle.std.specs.Prelude.{Option, ◌==◌}
use Rattle.std.specs.List.{flat_map, list_any}
use Rattle.pdb_addresses.specs.Places.{Place, internal_place}
use Rattle.pdb_addresses.specs.declared.internal_section_offset.PdbInternalSectionOffset.{
  PdbInternalSectionOffset,
}
use Rattle.pdb_frames.specs.Choice.{Parts}
use Rattle.pdb_frames.specs.NearBounds.{public_bounds, bounds_near}
use Rattle.pdb_contributions.specs.MergedContributions.{holder}
use Rattle.pdb_contributions.specs.declared.contribution.ModuleSectionContribution.{
  ModuleSectionContribution,
}
use Rattle.pdb_frames.proofs.FileRunLaw.{here_stays, starts_stay}
use Rattle.pdb_frames.proofs.FileStays.{AreClear}
use Rattle.pdb_frames.proofs.FrameRunLaw.{cuts_stay, here_stay}
use Rattle.pdb_frames.proofs.RunLaw.{IsClear, NoBound, by_stays, front_clear, here_by}
use Rattle.pdb_frames.proofs.RunLaw.{holder_step, left_false, on, right_false}
use Rattle.pdb_frames.specs.Files.{if_any, starts_here, files_of}
use Rattle.pdb_frames.specs.FrameRuns.{cuts_here, frames_of_places}
use Rattle.pdb_frames.specs.Runs.{procedures_of, is_bound, database_of}
use Rattle.pdb_frames.specs.Scopes.{Scope}
use Rattle.pdb_owners.specs.Databases as databases
use Rattle.pdb_contributions.specs.SectionBounds.{contribution_bounds}
use Rattle.pdb_known_modules.specs.SectionBounds.{procedure_bounds}

-- ---- the place after another one

same_holder : (p : Parts) (scope : ℕ → Scope) (place : PdbInternalSectionOffset)
    → is_bound p scope (on place 1) ≡ false
    → holder p.contributions (on place 1) ≡ holder p.contributions place
same_holder p scope place free =
    let procedures = procedures_of scope (holder p.contributions (on place 1)) in
    let others =
    flat_map (public_bounds place) p.publics
    ++ flat_map (procedure_bounds place) procedures in
    holder_step p.contributions place
    (front_clear (flat_map (contribution_bounds place) p.contributions) others
    (place.offset + 1) free)

only_one : (P : ℕ → Type 0) (k : ℕ) → 1 ≤ k → k < 2 → P 1 → P k
only_one P k low high h = let e : 1 ≡ k = omega arith in subst P e h

none_by_holder : (p : Parts) (scope : ℕ → Scope) (place : PdbInternalSectionOffset)
    → is_bound p scope (on place 1) ≡ false
    → NoBound p (procedures_of scope (holder p.contributions place)) place 2
none_by_holder p scope place free = λ k low high.
    let procedures = procedures_of scope (holder p.contributions place) in
    let clear : IsClear (bounds_near p procedures place) (place.offset + 1) =
    subst (λ (h : Option ModuleSectionContribution). IsClear
    (bounds_near p (procedures_of scope h) place) (place.offset + 1))
    (same_holder p scope place free) free in
    only_one (λ (j : ℕ). IsClear (bounds_near p procedures place) (place.offset + j)) k low high
    clear

-- ---- answers

-- a place that is no bound has the function of the place before it
pub function_before : (p : Parts) (scope : ℕ → Scope) (place : Place)
    → (database_of p scope).is_bound (databases.on place 1) ≡ false
    → (database_of p scope).answer (databases.on place 1) ≡ (database_of p scope).answer place
function_before p scope place free =
    let here = internal_place place in
    let h = holder p.contributions here in
    ap (λ (o : Option ModuleSectionContribution). here_by p scope o (on here 1))
    (same_holder p scope here free)
    ∙ by_stays p scope h here 1 2 (none_by_holder p scope here free) (omega arith)

-- a place that is no bound has the file of the place before it
pub file_before : (p : Parts) (scope : ℕ → Scope) (place : Place)
    → (files_of p scope).is_bound (databases.on place 1) ≡ false
    → (files_of p scope).answer (databases.on place 1) ≡ (files_of p scope).answer place
file_before p scope place free =
    let here = internal_place place in
    let next = on here 1 in
    let begun = list_any (λ start. next.offset == start) (starts_here p scope next) in
    let no_bound = left_false (is_bound p scope next) begun free in
    let no_row = right_false (is_bound p scope next) begun free in
    let none = none_by_holder p scope here no_bound in
    let rows : IsClear (starts_here p scope here) (here.offset + 1) =
    subst (λ (starts : List ℕ). IsClear starts (here.offset + 1))
    (starts_stay p scope here 1 2 none (omega arith)) no_row in
    let apart : AreClear (starts_here p scope here) here.offset 1 = λ j low high.
    only_one (λ (k : ℕ). IsClear (starts_here p scope here) (here.offset + k)) j low
    (omega (arith, high)) rows in
    ap if_any (here_stays p scope here 1 2 none (omega arith) apart)

-- a place that is no bound has the frames of the place before it
pub frames_before : (p : Parts) (scope : ℕ → Scope) (place : Place)
    → (frames_of_places p scope).is_bound (databases.on place 1) ≡ false
    → (frames_of_places p scope).answer (databases.on place 1)
    ≡ (frames_of_places p scope).answer place
frames_before p scope place free =
    let here = internal_place place in
    let next = on here 1 in
    let begun = list_any (λ cut. next.offset == cut) (cuts_here p scope next) in
    let no_bound = left_false (is_bound p scope next) begun free in
    let no_cut = right_false (is_bound p scope next) begun free in
    let none = none_by_holder p scope here no_bound in
    let cuts : IsClear (cuts_here p scope here) (here.offset + 1) =
    subst (λ (places : List ℕ). IsClear places (here.offset + 1))
    (cuts_stay p scope here 1 2 none (omega arith)) no_cut in
    let apart : AreClear (cuts_here p scope here) here.offset 1 = λ j low high.
    only_one (λ (k : ℕ). IsClear (cuts_here p scope here) (here.offset + k)) j low
    (omega (arith, high)) cuts in
    here_stay p scope here 1 2 none (omega arith) apart
