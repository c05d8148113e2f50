-- Between bounds and starts of rows the file stays, and each place with a function has a file.
use Rattle.std.proofs.Common.{Result, Ok, Err, IfOk, ◌≡◌, ℕ, ◌+◌, ◌<◌, ◌≤◌, inl, inr, Bool, true}
use Rattle.std.proofs.Common.{false, ◌||◌, List, [], ◌∷◌, refl, sym, ap, ◌∙◌, subst, arith}
use Rattle.std.specs.Prelude.{Option, None, Some, ◌==◌, option_and_then, option_map, is_some}
use Rattle.std.specs.List.{list_any}
use Rattle.std.proofs.lemmas.Bool.{cases_lt}
use Rattle.pdb_addresses.specs.Places.{Place, internal_place}
use Rattle.pdb_addresses.specs.SectionRun.{up_to_next}
use Rattle.pdb_addresses.specs.declared.internal_section_offset.PdbInternalSectionOffset.{
  PdbInternalSectionOffset,
}
use Rattle.pdb_frames.specs.Choice.{Parts, Chosen, chosen, start_address, function_end}
use Rattle.pdb_frames.specs.NearBounds.{bounds_near}
use Rattle.pdb_container.specs.Fault.{◌>>=◌}
use Rattle.pdb_contributions.specs.MergedContributions.{holder}
use Rattle.pdb_contributions.specs.declared.contribution.ModuleSectionContribution.{
  ModuleSectionContribution,
}
use Rattle.pdb_frames.proofs.FileStays.{AreClear, unnamed, frames_stay, file_stays}
use Rattle.pdb_frames.proofs.RunLaw.{IsClear, IsBound, NoBound, on, or_true, holder_stays}
use Rattle.pdb_frames.proofs.RunLaw.{chosen_stays, some_to_next, to_next-le, clear_to_next}
use Rattle.pdb_frames.proofs.RunLaw.{next_is_bound, here_by, run_to_next}
use Rattle.pdb_frames.specs.ChosenNames.{name_of}
use Rattle.pdb_frames.specs.Files.{file_or_none, last_file, file_of, file_here, if_any}
use Rattle.pdb_frames.specs.Files.{starts_if_chosen, starts_by, starts_if_frames, starts_here}
use Rattle.pdb_frames.specs.Files.{is_file_bound, files_of}
use Rattle.pdb_frames.specs.FramesAt.{frames_in, frames_of_chosen, frames_at, frames_if_held}
use Rattle.pdb_frames.specs.FramesAt.{found_frames, function_at, function_of}
use Rattle.pdb_frames.specs.Runs.{procedures_of, is_bound, database_of}
use Rattle.pdb_frames.specs.Scopes.{Scope}
use Rattle.pdb_owners.specs.Databases.{IsOneRun, place_of}
use Rattle.pdb_owners.specs.FileAnswers.{FileAnswer, Nothing, Unreadable, NoFile, File}
use Rattle.pdb_owners.specs.Frames.{Frame}
use Rattle.pdb_owners.specs.FunctionOrder.{Function}
use Rattle.pdb_known_modules.specs.KnownModules.{ModuleData, module_data, procedures_in}
use Rattle.pdb_names.specs.Env.{Env}
use Rattle.pdb_resolving.specs.Fault.{Fault}

-- ---- by the contribution that holds a place

-- the file of a place that is held so, or isn't
abbrev pub file_by_holder : Parts → (ℕ → Scope) → Option ModuleSectionContribution
    → PdbInternalSectionOffset → FileAnswer
file_by_holder p scope h place =
    file_of (frames_if_held p scope (option_map (λ c. (c, place)) h))

-- how far the file of a place goes on that is held so, or isn't: the lesser of a limit and the
-- distances to the next bound, and to the next start of a row
abbrev pub file_count : Parts → (ℕ → Scope) → Option ModuleSectionContribution
    → PdbInternalSectionOffset → ℕ → ℕ
file_count p scope h place limit =
    up_to_next
    (starts_if_frames (file_by_holder p scope h place) (starts_by p scope place h)) place.offset
    (up_to_next (bounds_near p (procedures_of scope h) place) place.offset limit)

-- the places before so many are held by the same contribution
held_alike : (p : Parts) (scope : ℕ → Scope) (place : PdbInternalSectionOffset) (k n : ℕ)
    → NoBound p (procedures_of scope (holder p.contributions place)) place n → k < n
    → file_here p scope (on place k)
    ≡ file_by_holder p scope (holder p.contributions place) (on place k)
held_alike p scope place k n none lt =
    ap (λ (h : Option ModuleSectionContribution). file_by_holder p scope h (on place k))
    (holder_stays p (procedures_of scope (holder p.contributions place)) place k n none lt)

-- ---- whether there are frames, and where rows begin

kind_by_holder : (p : Parts) (scope : ℕ → Scope) (h : Option ModuleSectionContribution)
    (place : PdbInternalSectionOffset) (k n : ℕ) → NoBound p (procedures_of scope h) place n
    → k < n → unnamed (file_by_holder p scope h (on place k))
    ≡ unnamed (file_by_holder p scope h place)
unfolding frames_at
kind_by_holder p scope None place k n none lt = refl
kind_by_holder p scope (Some c) place k n none lt =
    let s = scope c.module_index in
    let known = module_data s.own in
    let procedures = procedures_in known in
    ap (λ (o : Option Chosen). unnamed (file_of (frames_of_chosen p s.env known (on place k) o)))
    (chosen_stays p procedures c place k n none lt)
    ∙ frames_stay p s.env known place (on place k) (chosen p procedures c place)

-- whether there are frames, and whether they can be read, stays up to the next bound
pub kind_stays : (p : Parts) (scope : ℕ → Scope) (place : PdbInternalSectionOffset) (k n : ℕ)
    → NoBound p (procedures_of scope (holder p.contributions place)) place n → k < n
    → unnamed (file_here p scope (on place k)) ≡ unnamed (file_here p scope place)
kind_stays p scope place k n none lt =
    ap unnamed (held_alike p scope place k n none lt)
    ∙ kind_by_holder p scope (holder p.contributions place) place k n none lt

-- rows count by whether there are frames
by_kind : (a : FileAnswer) (starts : List ℕ)
    → starts_if_frames a starts ≡ starts_if_frames (unnamed a) starts
by_kind Nothing starts = refl
by_kind Unreadable starts = refl
by_kind NoFile starts = refl
by_kind (File name) starts = refl

starts_by_holder : (p : Parts) (scope : ℕ → Scope) (h : Option ModuleSectionContribution)
    (place : PdbInternalSectionOffset) (k n : ℕ) → NoBound p (procedures_of scope h) place n
    → k < n → starts_by p scope (on place k) h ≡ starts_by p scope place h
starts_by_holder p scope None place k n none lt = refl
starts_by_holder p scope (Some c) place k n none lt =
    let known = module_data (scope c.module_index).own in
    ap (starts_if_chosen known) (chosen_stays p (procedures_in known) c place k n none lt)

-- where rows begin stays up to the next bound
pub starts_stay : (p : Parts) (scope : ℕ → Scope) (place : PdbInternalSectionOffset) (k n : ℕ)
    → NoBound p (procedures_of scope (holder p.contributions place)) place n → k < n
    → starts_here p scope (on place k) ≡ starts_here p scope place
starts_stay p scope place k n none lt =
    let h = holder p.contributions place in
    let there = on place k in
    let starts = starts_by p scope place h in
    let held = holder_stays p (procedures_of scope h) place k n none lt in
    let same =
    ap (λ (o : Option ModuleSectionContribution). starts_by p scope there o) held
    ∙ starts_by_holder p scope h place k n none lt in
    ap (λ (s : List ℕ). starts_if_frames (file_here p scope there) s) same
    ∙ by_kind (file_here p scope there) starts
    ∙ ap (λ (a : FileAnswer). starts_if_frames a starts) (kind_stays p scope place k n none lt)
    ∙ sym (by_kind (file_here p scope place) starts)

-- ---- the file

file_with_rows : (p : Parts) (scope : ℕ → Scope) (h : Option ModuleSectionContribution)
    (place : PdbInternalSectionOffset) (k n : ℕ) → NoBound p (procedures_of scope h) place n
    → k < n → AreClear (starts_by p scope place h) place.offset k
    → file_by_holder p scope h (on place k) ≡ file_by_holder p scope h place
unfolding frames_at
file_with_rows p scope None place k n none lt clear = refl
file_with_rows p scope (Some c) place k n none lt clear =
    let s = scope c.module_index in
    let known = module_data s.own in
    let procedures = procedures_in known in
    ap (λ (o : Option Chosen). file_of (frames_of_chosen p s.env known (on place k) o))
    (chosen_stays p procedures c place k n none lt)
    ∙ file_stays p s.env known place k (chosen p procedures c place) clear

is_nothing : (a : FileAnswer) → unnamed a ≡ Nothing → a ≡ Nothing
is_nothing Nothing h = refl
is_nothing Unreadable h = (cc)
is_nothing NoFile h = (cc)
is_nothing (File name) h = (cc)

is_unreadable : (a : FileAnswer) → unnamed a ≡ Unreadable → a ≡ Unreadable
is_unreadable Nothing h = (cc)
is_unreadable Unreadable h = refl
is_unreadable NoFile h = (cc)
is_unreadable (File name) h = (cc)

-- the same file, by what it is: without frames rows don't count
by_file : (b a : FileAnswer) (starts : List ℕ) (x k : ℕ) → unnamed b ≡ unnamed a
    → (AreClear starts x k → b ≡ a) → AreClear (starts_if_frames a starts) x k → b ≡ a
by_file b Nothing starts x k kind with_rows clear = is_nothing b kind
by_file b Unreadable starts x k kind with_rows clear = is_unreadable b kind
by_file b NoFile starts x k kind with_rows clear = with_rows clear
by_file b (File name) starts x k kind with_rows clear = with_rows clear

-- the file stays up to the next bound or start of a row
pub here_stays : (p : Parts) (scope : ℕ → Scope) (place : PdbInternalSectionOffset) (k n : ℕ)
    → NoBound p (procedures_of scope (holder p.contributions place)) place n → k < n
    → AreClear (starts_here p scope place) place.offset k
    → file_here p scope (on place k) ≡ file_here p scope place
here_stays p scope place k n none lt clear =
    let h = holder p.contributions place in
    by_file (file_here p scope (on place k)) (file_here p scope place) (starts_by p scope place h)
    place.offset k (kind_stays p scope place k n none lt)
    (λ rows. held_alike p scope place k n none lt
    ∙ file_with_rows p scope h place k n none lt rows) clear

-- ---- the run

pub both_false : (a b : Bool) → a ≡ false → b ≡ false → (a || b) ≡ false
both_false a b h i = (cc)

-- the end of a run is a bound, or a row begins there
ends_there : (p : Parts) (scope : ℕ → Scope) (place : PdbInternalSectionOffset) (limit m n : ℕ)
    → IsOneRun (database_of p scope) (place_of place) limit m
    → NoBound p (procedures_of scope (holder p.contributions place)) place m
    → up_to_next (starts_here p scope place) place.offset m ≡ n → n < limit
    → is_file_bound p scope (on place n) ≡ true
ends_there p scope place limit m n run none is lt = elim (cases_lt n m) [
  | inl before ↦
      let starts = starts_here p scope place in
      let begun : IsBound starts (place.offset + n) =
      next_is_bound starts place.offset m n is before in
      let there : IsBound (starts_here p scope (on place n)) (place.offset + n) =
      subst (λ (s : List ℕ). IsBound s (place.offset + n))
      (sym (starts_stay p scope place n m none before)) begun in
      ap (λ (b : Bool). is_bound p scope (on place n) || b) there
      ∙ or_true (is_bound p scope (on place n))
  | inr after ↦
      let low : n ≤ m =
      subst (λ (x : ℕ). x ≤ m) is (to_next-le (starts_here p scope place) place.offset m) in
      let same : m ≡ n = omega (arith, low, after) in
      let bound = run.ends (omega (arith, same, lt)) in
      let there : is_bound p scope (on place n) ≡ true =
      subst (λ (x : ℕ). is_bound p scope (on place x) ≡ true) same bound in
      let rows = list_any (λ start. place.offset + n == start) (starts_here p scope (on place n)) in
      ap (λ (b : Bool). b || rows) there
]

-- the lesser of a limit and the distances to the next bound by a place's own holder, and to the
-- next start of a row of its own function, is a run of one file
pub file_run_to_next : (p : Parts) (scope : ℕ → Scope) (place : PdbInternalSectionOffset)
    (limit : ℕ) → 1 ≤ limit → IsOneRun (files_of p scope) (place_of place) limit
    (up_to_next (starts_here p scope place) place.offset
    (up_to_next (bounds_near p (procedures_of scope (holder p.contributions place)) place)
    place.offset limit))
file_run_to_next p scope place limit some =
    let procedures = procedures_of scope (holder p.contributions place) in
    let bounds = bounds_near p procedures place in
    let x = place.offset in
    let m = up_to_next bounds x limit in
    let starts = starts_here p scope place in
    let n = up_to_next starts x m in
    let run = run_to_next p scope place limit some in
    let low : n ≤ m = to_next-le starts x m in
    let high : m ≤ limit = to_next-le bounds x limit in
    let none : NoBound p procedures place m =
    λ k first lt. clear_to_next bounds x limit k first lt in
    let apart : (k : ℕ) → 1 ≤ k → k < n → IsClear starts (x + k) =
    λ k first lt. clear_to_next starts x m k first lt in
    record {
      some = some_to_next starts x m (some_to_next bounds x limit some);
      within = omega (arith, low, high);
      alike = λ k lt.
          ap if_any (here_stays p scope place k m none (omega (arith, low, lt))
          (λ j first last. apart j first (omega (arith, last, lt))));
      clear = λ k first lt.
          let before : k < m = omega (arith, low, lt) in
          let there : IsClear (starts_here p scope (on place k)) (x + k) =
          subst (λ (s : List ℕ). IsClear s (x + k))
          (sym (starts_stay p scope place k m none before)) (apart k first lt) in
          both_false (is_bound p scope (on place k)) _ (run.clear k first before) there;
      ends = λ lt. ends_there p scope place limit m n run none refl lt;
    }

-- the same by what the holder is
pub file_run_by_holder : (p : Parts) (scope : ℕ → Scope) (place : PdbInternalSectionOffset)
    (limit n : ℕ) (h : Option ModuleSectionContribution) → 1 ≤ limit
    → h ≡ holder p.contributions place → n ≡ file_count p scope h place limit
    → IsOneRun (files_of p scope) (place_of place) limit n
file_run_by_holder p scope place limit n h some held is =
    let count = λ (o : Option ModuleSectionContribution). file_count p scope o place limit in
    subst (λ (m : ℕ). IsOneRun (files_of p scope) (place_of place) limit m)
    (sym (is ∙ ap count held)) (file_run_to_next p scope place limit some)

-- the same of what a call returned, if it returned something
pub file_run_if_ok : {A E : Type 0} (p : Parts) (scope : ℕ → Scope)
    (place : PdbInternalSectionOffset) (limit : ℕ) (h : Option ModuleSectionContribution)
    (r : Result (A × ℕ) E) → 1 ≤ limit → h ≡ holder p.contributions place
    → IfOk r (λ run. run.1 ≡ file_count p scope h place limit)
    → IfOk r (λ run. IsOneRun (files_of p scope) (place_of place) limit run.1)
file_run_if_ok p scope place limit h (Ok run) some held is =
    file_run_by_holder p scope place limit run.1 h some held is
file_run_if_ok p scope place limit h (Err e) some held is = tt

-- ---- each place with a function has a file

file_counts : (name : Option (List ℕ)) → is_some (if_any (file_or_none name)) ≡ true
file_counts None = refl
file_counts (Some name) = refl

frames_count : (frames : List Frame) → is_some (if_any (last_file frames)) ≡ true
frames_count [] = refl
frames_count (f ∷ []) = file_counts f.file
frames_count (f ∷ g ∷ frames) = frames_count (g ∷ frames)

-- something made of a start: frames from that start have a file, or can't be read
with_start : {A : Type 0} (p : Parts) (c : Chosen) (read : Result (List Frame) Fault)
    (made : ℕ → Option A) (start : Option ℕ) → is_some (option_and_then made start) ≡ true
    → is_some (if_any (file_of (read >>= λ all. Ok (found_frames p c all start)))) ≡ true
with_start p c (Err e) made start h = refl
with_start p c (Ok all) made None h = (cc)
with_start p c (Ok all) made (Some a) h = frames_count all

with_chosen : (p : Parts) (env : Env) (known : Option ModuleData)
    (place : PdbInternalSectionOffset) (chosen : Option Chosen)
    → is_some (option_and_then (function_of p env) chosen) ≡ true
    → is_some (if_any (file_of (frames_of_chosen p env known place chosen))) ≡ true
with_chosen p env known place None h = (cc)
with_chosen p env known place (Some c) h =
    let ended = λ (start : ℕ). option_map (λ (end : Option ℕ).
    let f : Function = record { start_rva = start; end_rva = end; name = name_of p env c } in f)
    (function_end p c start) in
    with_start p c (frames_in p env known c place) ended (start_address p c) h

with_holder : (p : Parts) (scope : ℕ → Scope) (h : Option ModuleSectionContribution)
    (place : PdbInternalSectionOffset) → is_some (here_by p scope h place) ≡ true
    → is_some (if_any (file_by_holder p scope h place)) ≡ true
unfolding frames_at function_at
with_holder p scope None place h = (cc)
with_holder p scope (Some c) place h =
    let s = scope c.module_index in
    let known = module_data s.own in
    with_chosen p s.env known place (chosen p (procedures_in known) c place) h

-- where there is a function there is a file, no known file, or frames that can't be read
pub functions_have_files : (p : Parts) (scope : ℕ → Scope) (place : Place)
    → is_some ((database_of p scope).answer place) ≡ true
    → is_some ((files_of p scope).answer place) ≡ true
functions_have_files p scope place h =
    with_holder p scope (holder p.contributions (internal_place place)) (internal_place place) h
