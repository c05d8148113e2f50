-- Between bounds of functions, starts of rows, and starts and ends of rows of inline sites, the
-- frames stay.
use Rattle.std.proofs.Common.{◌≡◌, ℕ, ◌+◌, ◌<◌, ◌≤◌, inl, inr, Bool, true, ◌||◌, List, [], ◌∷◌}
use Rattle.std.proofs.Common.{Result, Ok, Err, refl, sym, ap, ◌∙◌, subst, arith}
use Rattle.std.specs.Prelude.{Option, None, Some, ◌==◌, option_map}
use Rattle.std.specs.List.{list_any}
use Rattle.std.proofs.lemmas.Bool.{cases_lt}
use Rattle.pdb_addresses.specs.SectionRun.{up_to_next}
use Rattle.pdb_addresses.specs.declared.internal_section_offset.PdbInternalSectionOffset.{
  PdbInternalSectionOffset,
}
use Rattle.pdb_frames.specs.Choice.{Parts, Chosen, chosen}
use Rattle.pdb_frames.specs.NearBounds.{bounds_near}
use Rattle.pdb_contributions.specs.MergedContributions.{holder}
use Rattle.pdb_contributions.specs.declared.contribution.ModuleSectionContribution.{
  ModuleSectionContribution,
}
use Rattle.pdb_frames.proofs.FileRunLaw.{both_false, kind_stays}
use Rattle.pdb_frames.proofs.FileStays.{AreClear, unnamed, unnamed_file}
use Rattle.pdb_frames.proofs.FramesStay.{frames_in_chosen_stay}
use Rattle.pdb_frames.proofs.RunLaw.{IsBound, IsClear, NoBound, chosen_stays, clear_to_next}
use Rattle.pdb_frames.proofs.RunLaw.{holder_stays, next_is_bound, on, or_true, run_to_next}
use Rattle.pdb_frames.proofs.RunLaw.{some_to_next, to_next-le}
use Rattle.pdb_frames.specs.FrameRuns.{cuts_by, cuts_here, cuts_if_chosen, cuts_if_frames}
use Rattle.pdb_frames.specs.FrameRuns.{frames_here, frames_of_places, if_answered, is_frames_bound}
use Rattle.pdb_frames.specs.Files.{file_of, last_file, starts_if_frames}
use Rattle.pdb_frames.specs.FramesAt.{frames_at, frames_if_held, frames_of_chosen}
use Rattle.pdb_frames.specs.Runs.{database_of, is_bound, procedures_of}
use Rattle.pdb_frames.specs.Scopes.{Scope}
use Rattle.pdb_owners.specs.Databases.{IsOneRun, place_of}
use Rattle.pdb_owners.specs.FileAnswers.{FileAnswer, Nothing, Unreadable, NoFile}
use Rattle.pdb_owners.specs.Frames.{Frame, FunctionFrames}
use Rattle.pdb_known_modules.specs.KnownModules.{module_data, procedures_in}
use Rattle.pdb_resolving.specs.Fault.{Fault}

abbrev Answer : Type 0
Answer = Result (Option FunctionFrames) Fault

-- ---- by the contribution that holds a place

-- the frames at a place that is held so, or isn't
abbrev pub frames_by_holder : Parts → (ℕ → Scope) → Option ModuleSectionContribution
    → PdbInternalSectionOffset → Answer
frames_by_holder p scope h place = frames_if_held p scope (option_map (λ c. (c, place)) h)

-- how far the frames at a place go on that is held so, or isn't
abbrev pub frames_count : Parts → (ℕ → Scope) → Option ModuleSectionContribution
    → PdbInternalSectionOffset → ℕ → ℕ
frames_count p scope h place limit =
    up_to_next (cuts_if_frames (frames_by_holder p scope h place) (cuts_by p scope place h))
    place.offset (up_to_next (bounds_near p (procedures_of scope h) place) place.offset limit)

-- ---- whether there are frames

last_unnamed : (frames : List Frame) → unnamed (last_file frames) ≡ NoFile
last_unnamed [] = refl
last_unnamed (f ∷ []) = unnamed_file f.file
last_unnamed (f ∷ g ∷ frames) = last_unnamed (g ∷ frames)

-- cuts count by whether there are frames
by_kind : (a : Answer) (cuts : List ℕ)
    → cuts_if_frames a cuts ≡ starts_if_frames (unnamed (file_of a)) cuts
by_kind (Err e) cuts = refl
by_kind (Ok None) cuts = refl
by_kind (Ok (Some f)) cuts =
    ap (λ (file : FileAnswer). starts_if_frames file cuts) (sym (last_unnamed f.frames))

is_nothing : (a : Answer) → unnamed (file_of a) ≡ Nothing → if_answered a ≡ None
is_nothing (Err e) h = (cc)
is_nothing (Ok None) h = refl
is_nothing (Ok (Some f)) h = let e = last_unnamed f.frames in (cc)

is_unreadable : (a : Answer) → unnamed (file_of a) ≡ Unreadable → if_answered a ≡ Some None
is_unreadable (Err e) h = refl
is_unreadable (Ok None) h = (cc)
is_unreadable (Ok (Some f)) h = let e = last_unnamed f.frames in (cc)

-- the same answer, by what it is: without frames cuts don't count
by_answer : (b a : Answer) (cuts : List ℕ) (x k : ℕ)
    → unnamed (file_of b) ≡ unnamed (file_of a) → (AreClear cuts x k → b ≡ a)
    → AreClear (cuts_if_frames a cuts) x k → if_answered b ≡ if_answered a
by_answer b (Err e) cuts x k kind with_cuts clear = is_unreadable b kind
by_answer b (Ok None) cuts x k kind with_cuts clear = is_nothing b kind
by_answer b (Ok (Some f)) cuts x k kind with_cuts clear = ap if_answered (with_cuts clear)

-- ---- where cuts are

cuts_by_holder : (p : Parts) (scope : ℕ → Scope) (h : Option ModuleSectionContribution)
    (place : PdbInternalSectionOffset) (k n : ℕ) → NoBound p (procedures_of scope h) place n
    → k < n → cuts_by p scope (on place k) h ≡ cuts_by p scope place h
cuts_by_holder p scope None place k n none lt = refl
cuts_by_holder p scope (Some c) place k n none lt =
    let known = module_data (scope c.module_index).own in
    ap (cuts_if_chosen known) (chosen_stays p (procedures_in known) c place k n none lt)

-- the cuts stay up to the next bound
pub cuts_stay : (p : Parts) (scope : ℕ → Scope) (place : PdbInternalSectionOffset) (k n : ℕ)
    → NoBound p (procedures_of scope (holder p.contributions place)) place n → k < n
    → cuts_here p scope (on place k) ≡ cuts_here p scope place
cuts_stay p scope place k n none lt =
    let h = holder p.contributions place in
    let there = on place k in
    let cuts = cuts_by p scope place h in
    let held = holder_stays p (procedures_of scope h) place k n none lt in
    let same =
    ap (λ (o : Option ModuleSectionContribution). cuts_by p scope there o) held
    ∙ cuts_by_holder p scope h place k n none lt in
    ap (λ (s : List ℕ). cuts_if_frames (frames_here p scope there) s) same
    ∙ by_kind (frames_here p scope there) cuts
    ∙ ap (λ (a : FileAnswer). starts_if_frames a cuts) (kind_stays p scope place k n none lt)
    ∙ sym (by_kind (frames_here p scope place) cuts)

-- ---- the frames

-- the places before so many are held by the same contribution
held_alike : (p : Parts) (scope : ℕ → Scope) (place : PdbInternalSectionOffset) (k n : ℕ)
    → NoBound p (procedures_of scope (holder p.contributions place)) place n → k < n
    → frames_here p scope (on place k)
    ≡ frames_by_holder p scope (holder p.contributions place) (on place k)
held_alike p scope place k n none lt =
    ap (λ (h : Option ModuleSectionContribution). frames_by_holder p scope h (on place k))
    (holder_stays p (procedures_of scope (holder p.contributions place)) place k n none lt)

frames_with_cuts : (p : Parts) (scope : ℕ → Scope) (h : Option ModuleSectionContribution)
    (place : PdbInternalSectionOffset) (k n : ℕ) → NoBound p (procedures_of scope h) place n
    → k < n → AreClear (cuts_by p scope place h) place.offset k
    → frames_by_holder p scope h (on place k) ≡ frames_by_holder p scope h place
unfolding frames_at
frames_with_cuts p scope None place k n none lt clear = refl
frames_with_cuts p scope (Some c) place k n none lt clear =
    let s = scope c.module_index in
    let known = module_data s.own in
    let procedures = procedures_in known in
    ap (λ (o : Option Chosen). frames_of_chosen p s.env known (on place k) o)
    (chosen_stays p procedures c place k n none lt)
    ∙ frames_in_chosen_stay p s.env known place k (chosen p procedures c place) clear

-- the frames stay up to the next bound or cut
pub here_stay : (p : Parts) (scope : ℕ → Scope) (place : PdbInternalSectionOffset) (k n : ℕ)
    → NoBound p (procedures_of scope (holder p.contributions place)) place n → k < n
    → AreClear (cuts_here p scope place) place.offset k
    → if_answered (frames_here p scope (on place k)) ≡ if_answered (frames_here p scope place)
here_stay p scope place k n none lt clear =
    let h = holder p.contributions place in
    by_answer (frames_here p scope (on place k)) (frames_here p scope place)
    (cuts_by p scope place h) place.offset k (kind_stays p scope place k n none lt)
    (λ cuts. held_alike p scope place k n none lt
    ∙ frames_with_cuts p scope h place k n none lt cuts) clear

-- ---- the run

-- the end of a run is a bound of functions, or a cut
ends_there : (p : Parts) (scope : ℕ → Scope) (place : PdbInternalSectionOffset) (limit m n : ℕ)
    → IsOneRun (database_of p scope) (place_of place) limit m
    → NoBound p (procedures_of scope (holder p.contributions place)) place m
    → up_to_next (cuts_here p scope place) place.offset m ≡ n → n < limit
    → is_frames_bound p scope (on place n) ≡ true
ends_there p scope place limit m n run none is lt = elim (cases_lt n m) [
  | inl before ↦
      let cuts = cuts_here p scope place in
      let cut : IsBound cuts (place.offset + n) = next_is_bound cuts place.offset m n is before in
      let there : IsBound (cuts_here p scope (on place n)) (place.offset + n) =
      subst (λ (s : List ℕ). IsBound s (place.offset + n))
      (sym (cuts_stay p scope place n m none before)) cut in
      ap (λ (b : Bool). is_bound p scope (on place n) || b) there
      ∙ or_true (is_bound p scope (on place n))
  | inr after ↦
      let low : n ≤ m =
      subst (λ (x : ℕ). x ≤ m) is (to_next-le (cuts_here p scope place) place.offset m) in
      let same : m ≡ n = omega (arith, low, after) in
      let bound = run.ends (omega (arith, same, lt)) in
      let there : is_bound p scope (on place n) ≡ true =
      subst (λ (x : ℕ). is_bound p scope (on place x) ≡ true) same bound in
      let cuts = list_any (λ cut. place.offset + n == cut) (cuts_here p scope (on place n)) in
      ap (λ (b : Bool). b || cuts) there
]

-- the lesser of a limit and the distances to the next bound by a place's own holder, and to the
-- next cut of its own function, is a run of the same frames
pub frames_run_to_next : (p : Parts) (scope : ℕ → Scope) (place : PdbInternalSectionOffset)
    (limit : ℕ) → 1 ≤ limit → IsOneRun (frames_of_places p scope) (place_of place) limit
    (up_to_next (cuts_here p scope place) place.offset
    (up_to_next (bounds_near p (procedures_of scope (holder p.contributions place)) place)
    place.offset limit))
frames_run_to_next p scope place limit some =
    let procedures = procedures_of scope (holder p.contributions place) in
    let bounds = bounds_near p procedures place in
    let x = place.offset in
    let m = up_to_next bounds x limit in
    let cuts = cuts_here p scope place in
    let n = up_to_next cuts x m in
    let run = run_to_next p scope place limit some in
    let low : n ≤ m = to_next-le cuts x m in
    let high : m ≤ limit = to_next-le bounds x limit in
    let none : NoBound p procedures place m =
    λ k first lt. clear_to_next bounds x limit k first lt in
    let apart : (k : ℕ) → 1 ≤ k → k < n → IsClear cuts (x + k) =
    λ k first lt. clear_to_next cuts x m k first lt in
    record {
      some = some_to_next cuts x m (some_to_next bounds x limit some);
      within = omega (arith, low, high);
      alike = λ k lt.
          here_stay p scope place k m none (omega (arith, low, lt))
          (λ j first last. apart j first (omega (arith, last, lt)));
      clear = λ k first lt.
          let before : k < m = omega (arith, low, lt) in
          let there : IsClear (cuts_here p scope (on place k)) (x + k) =
          subst (λ (s : List ℕ). IsClear s (x + k))
          (sym (cuts_stay p scope place k m none before)) (apart k first lt) in
          both_false (is_bound p scope (on place k)) _ (run.clear k first before) there;
      ends = λ lt. ends_there p scope place limit m n run none refl lt;
    }

-- the same by what the holder is
pub frames_run_by_holder : (p : Parts) (scope : ℕ → Scope) (place : PdbInternalSectionOffset)
    (limit n : ℕ) (h : Option ModuleSectionContribution) → 1 ≤ limit
    → h ≡ holder p.contributions place → n ≡ frames_count p scope h place limit
    → IsOneRun (frames_of_places p scope) (place_of place) limit n
frames_run_by_holder p scope place limit n h some held is =
    let count = λ (o : Option ModuleSectionContribution). frames_count p scope o place limit in
    subst (λ (m : ℕ). IsOneRun (frames_of_places p scope) (place_of place) limit m)
    (sym (is ∙ ap count held)) (frames_run_to_next p scope place limit some)
