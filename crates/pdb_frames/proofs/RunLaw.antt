-- Between bounds the function stays.
use Rattle.std.proofs.Common.{Result, Ok, Err, IfOk, ◌≡◌, ◌≢◌, ℕ, zero, suc, ◌+◌, ◌-◌, ◌<◌, ◌≤◌, min, inl, inr, Bool, true, false, cond, ◌&&◌, ◌||◌, leb, ltb, List, [], ◌∷◌, ◌++◌, refl, sym, ap, ◌∙◌, subst, arith}
use Rattle.std.specs.Option.{option_or}
use Rattle.std.specs.Prelude.{Option, None, Some, ◌==◌, option_map, option_and_then}
use Rattle.std.specs.List.{flat_map, list_any}
use Rattle.std.proofs.lemmas.Bool.{lt-ltb, le-ltb, le-leb, lt-leb, eq-eqb, ne_eqb, cases_lt}
use Rattle.std.proofs.lemmas.List.Folds.{list_any-append}
use Rattle.pdb_addresses.specs.declared.internal_section_offset.PdbInternalSectionOffset.{PdbInternalSectionOffset}
use Rattle.pdb_addresses.specs.SectionRun.{nearer, up_to_next}
use Rattle.pdb_contributions.specs.declared.contribution.ModuleSectionContribution.{ModuleSectionContribution}
use Rattle.pdb_contributions.specs.MergedContributions.{holds, holder}
use Rattle.pdb_contributions.specs.Publics.{PublicFunction, is_at_or_before, last_at_or_before, not_before, public_over}
use Rattle.pdb_module_data.specs.Procedures.{Procedure, contains, later, over}
use Rattle.pdb_owners.specs.FunctionOrder.{Function}
use Rattle.pdb_frames.specs.Choice.{Parts, Chosen, chosen_of, chosen}
use Rattle.pdb_frames.specs.Scopes.{Scope}
use Rattle.pdb_frames.specs.FramesAt.{function_at, function_of}
use Rattle.pdb_known_modules.specs.KnownModules.{module_data, procedures_in}
use Rattle.pdb_owners.specs.Databases.{IsOneRun, place_of}
use Rattle.pdb_contributions.specs.SectionBounds.{if_there, contribution_bounds}
use Rattle.pdb_known_modules.specs.SectionBounds.{procedure_bounds}
use Rattle.pdb_frames.specs.NearBounds.{public_bounds, bounds_near}
use Rattle.pdb_frames.specs.Runs.{procedures_of, is_bound, database_of}

-- a place so many bytes on in its section
abbrev pub on : PdbInternalSectionOffset → ℕ → PdbInternalSectionOffset
on p k = record { section = p.section; offset = p.offset + k }

-- ---- tests

pub left_false : (a b : Bool) → (a || b) ≡ false → a ≡ false
left_false true b h = (cc)
left_false false b h = refl

pub right_false : (a b : Bool) → (a || b) ≡ false → b ≡ false
right_false true b h = (cc)
right_false false b h = h

pub differ : (a b : ℕ) → (a == b) ≡ false → a ≢ b
differ a b h = λ same. let e = eq-eqb a b same in (cc)

abbrev pub IsClear : List ℕ → ℕ → Type 0
IsClear bounds x = list_any (λ bound. x == bound) bounds ≡ false

pub front_clear : (bs cs : List ℕ) (x : ℕ) → IsClear (bs ++ cs) x → IsClear bs x
front_clear bs cs x h = left_false (list_any (λ bound. x == bound) bs) (list_any (λ bound. x == bound) cs) (sym (list_any-append (λ bound. x == bound) bs cs) ∙ h)

pub rest_clear : (bs cs : List ℕ) (x : ℕ) → IsClear (bs ++ cs) x → IsClear cs x
rest_clear bs cs x h = right_false (list_any (λ bound. x == bound) bs) (list_any (λ bound. x == bound) cs) (sym (list_any-append (λ bound. x == bound) bs cs) ∙ h)

pub leb_step : (start x : ℕ) → x + 1 ≢ start → leb start (x + 1) ≡ leb start x
leb_step start x other = elim (cases_lt x start) [
  | inl low ↦ rw (lt-leb start (x + 1) (omega arith), lt-leb start x low) refl
  | inr high ↦ rw (le-leb start (x + 1) (omega arith), le-leb start x high) refl
]

pub ltb_step : (end x : ℕ) → x + 1 ≢ end → ltb (x + 1) end ≡ ltb x end
ltb_step end x other = elim (cases_lt x end) [
  | inl low ↦ rw (lt-ltb (x + 1) end (omega arith), lt-ltb x end low) refl
  | inr high ↦ rw (le-ltb (x + 1) end (omega arith), le-ltb x end high) refl
]

covers_step : (same : Bool) (start end x : ℕ) → IsClear (if_there same start end) (x + 1) → (same && (leb start (x + 1) && ltb (x + 1) end)) ≡ (same && (leb start x && ltb x end))
covers_step false start end x h = refl
covers_step true start end x h =
    let e = leb_step start x (differ (x + 1) start (left_false (x + 1 == start) ((x + 1 == end) || false) h)) in
    let f = ltb_step end x (differ (x + 1) end (left_false (x + 1 == end) false (right_false (x + 1 == start) ((x + 1 == end) || false) h))) in
    ap (λ (b : Bool). b && ltb (x + 1) end) e ∙ ap (λ (b : Bool). leb start x && b) f

before_step : (same : Bool) (start x : ℕ) → IsClear (cond same (start ∷ []) []) (x + 1) → (same && leb start (x + 1)) ≡ (same && leb start x)
before_step false start x h = refl
before_step true start x h = leb_step start x (differ (x + 1) start (left_false (x + 1 == start) false h))

-- ---- one place on

pub holder_step : (cs : List ModuleSectionContribution) (p : PdbInternalSectionOffset) → IsClear (flat_map (contribution_bounds p) cs) (p.offset + 1) → holder cs (on p 1) ≡ holder cs p
holder_step [] p h = refl
holder_step (c ∷ cs) p h =
    let first : holds (on p 1) c ≡ holds p c = covers_step (c.section_index == p.section) c.start_offset c.end_offset p.offset (front_clear (contribution_bounds p c) (flat_map (contribution_bounds p) cs) (p.offset + 1) h) in
    let others = holder_step cs p (rest_clear (contribution_bounds p c) (flat_map (contribution_bounds p) cs) (p.offset + 1) h) in
    ap (λ (b : Bool). cond b (Some c) (holder cs (on p 1))) first ∙ ap (λ (o : Option ModuleSectionContribution). cond (holds p c) (Some c) o) others

over_step : (qs : List Procedure) (p : PdbInternalSectionOffset) → IsClear (flat_map (procedure_bounds p) qs) (p.offset + 1) → over qs (on p 1) ≡ over qs p
over_step [] p h = refl
over_step (q ∷ qs) p h =
    let first : contains q (on p 1) ≡ contains q p = covers_step ((q.offset).section == p.section) (q.offset).offset ((q.offset).offset + q.len) p.offset (front_clear (procedure_bounds p q) (flat_map (procedure_bounds p) qs) (p.offset + 1) h) in
    let others = over_step qs p (rest_clear (procedure_bounds p q) (flat_map (procedure_bounds p) qs) (p.offset + 1) h) in
    ap (λ (b : Bool). later (cond b (Some q) None) (over qs (on p 1))) first ∙ ap (λ (o : Option Procedure). later (cond (contains q p) (Some q) None) o) others

public_step : (fs : List PublicFunction) (p : PdbInternalSectionOffset) → IsClear (flat_map (public_bounds p) fs) (p.offset + 1) → last_at_or_before fs (on p 1) ≡ last_at_or_before fs p
public_step [] p h = refl
public_step (f ∷ fs) p h =
    let first : is_at_or_before (on p 1) f ≡ is_at_or_before p f = before_step ((f.start_offset).section == p.section) (f.start_offset).offset p.offset (front_clear (public_bounds p f) (flat_map (public_bounds p) fs) (p.offset + 1) h) in
    let others = public_step fs p (rest_clear (public_bounds p f) (flat_map (public_bounds p) fs) (p.offset + 1) h) in
    ap (λ (b : Bool). option_or (last_at_or_before fs (on p 1)) (cond b (Some f) None)) first ∙ ap (λ (o : Option PublicFunction). option_or o (cond (is_at_or_before p f) (Some f) None)) others

-- ---- so many places on, none of which is a bound by the same procedures

abbrev pub NoBound : Parts → List Procedure → PdbInternalSectionOffset → ℕ → Type 0
NoBound p qs place n = (k : ℕ) → 1 ≤ k → k < n → IsClear (bounds_near p qs place) (place.offset + k)

pub zero_on : (p : PdbInternalSectionOffset) → on p 0 ≡ p
zero_on p = let e : p.offset + 0 ≡ p.offset = omega arith in ap (λ (x : ℕ). let q : PdbInternalSectionOffset = record { section = p.section; offset = x } in q) e

pub one_on : (p : PdbInternalSectionOffset) (d : ℕ) → on p (suc d) ≡ on (on p d) 1
one_on p d = let e : p.offset + suc d ≡ p.offset + d + 1 = omega arith in ap (λ (x : ℕ). let q : PdbInternalSectionOffset = record { section = p.section; offset = x } in q) e

-- the next place is no bound
next_clear : (bs : List ℕ) (x k : ℕ) → IsClear bs (x + suc k) → IsClear bs (x + k + 1)
next_clear bs x k h = let e : x + suc k ≡ x + k + 1 = omega arith in subst (λ (y : ℕ). IsClear bs y) e h

pub holder_stays : (p : Parts) (qs : List Procedure) (place : PdbInternalSectionOffset) (k n : ℕ) → NoBound p qs place n → k < n → holder p.contributions (on place k) ≡ holder p.contributions place
holder_stays p qs place zero n none lt = ap (holder p.contributions) (zero_on place)
holder_stays p qs place (suc k) n none lt =
    let at = next_clear (bounds_near p qs place) place.offset k (none (suc k) (omega arith) lt) in
    let cs = flat_map (contribution_bounds place) p.contributions in
    let others = flat_map (public_bounds place) p.publics ++ flat_map (procedure_bounds place) qs in
    ap (holder p.contributions) (one_on place k) ∙ holder_step p.contributions (on place k) (front_clear cs others (place.offset + k + 1) at) ∙ holder_stays p qs place k n none (omega arith)

pub chosen_stays : (p : Parts) (qs : List Procedure) (c : ModuleSectionContribution) (place : PdbInternalSectionOffset) (k n : ℕ) → NoBound p qs place n → k < n → chosen p qs c (on place k) ≡ chosen p qs c place
chosen_stays p qs c place zero n none lt = ap (chosen p qs c) (zero_on place)
chosen_stays p qs c place (suc k) n none lt =
    let at = next_clear (bounds_near p qs place) place.offset k (none (suc k) (omega arith) lt) in
    let cs = flat_map (contribution_bounds place) p.contributions in
    let fs = flat_map (public_bounds place) p.publics in
    let ps = flat_map (procedure_bounds place) qs in
    let rest = rest_clear cs (fs ++ ps) (place.offset + k + 1) at in
    let here = on (on place k) 1 in
    let e = over_step qs (on place k) (rest_clear fs ps (place.offset + k + 1) rest) in
    let f = public_step p.publics (on place k) (front_clear fs ps (place.offset + k + 1) rest) in
    ap (chosen p qs c) (one_on place k)
    ∙ ap (λ (o : Option Procedure). chosen_of o (public_over p.publics c.start_offset here)) e
    ∙ ap (λ (o : Option PublicFunction). chosen_of (over qs (on place k)) (not_before c.start_offset o)) f
    ∙ chosen_stays p qs c place k n none (omega arith)

-- the function at a place that is held so, or isn't
abbrev pub here_by : Parts → (ℕ → Scope) → Option ModuleSectionContribution → PdbInternalSectionOffset → Option Function
here_by p scope h place = option_and_then (λ (held : ModuleSectionContribution × PdbInternalSectionOffset). function_at p (scope (held.0).module_index) held.0 held.1) (option_map (λ c. (c, place)) h)

function_stays : (p : Parts) (s : Scope) (c : ModuleSectionContribution) (place : PdbInternalSectionOffset) (k n : ℕ) → NoBound p (procedures_in (module_data s.own)) place n → k < n → function_at p s c (on place k) ≡ function_at p s c place
unfolding function_at
function_stays p s c place k n none lt = ap (λ (o : Option Chosen). option_and_then (function_of p s.env) o) (chosen_stays p (procedures_in (module_data s.own)) c place k n none lt)

pub by_stays : (p : Parts) (scope : ℕ → Scope) (h : Option ModuleSectionContribution) (place : PdbInternalSectionOffset) (k n : ℕ) → NoBound p (procedures_of scope h) place n → k < n → here_by p scope h (on place k) ≡ here_by p scope h place
by_stays p scope None place k n none lt = refl
by_stays p scope (Some c) place k n none lt = function_stays p (scope c.module_index) c place k n none lt

-- ---- the distance to the next bound

some_nearer : (x b far : ℕ) → 1 ≤ far → 1 ≤ nearer x b far
some_nearer x b far h = elim (cases_lt x b) [
  | inl low ↦ rw (lt-ltb x b low) (omega arith)
  | inr high ↦ rw (le-ltb x b high) h
]

pub some_to_next : (bs : List ℕ) (x limit : ℕ) → 1 ≤ limit → 1 ≤ up_to_next bs x limit
some_to_next [] x limit h = h
some_to_next (b ∷ bs) x limit h = some_nearer x b (up_to_next bs x limit) (some_to_next bs x limit h)

nearer-le : (x b far : ℕ) → nearer x b far ≤ far
nearer-le x b far = elim (cases_lt x b) [
  | inl low ↦ rw (lt-ltb x b low) (omega arith)
  | inr high ↦ rw (le-ltb x b high) (omega arith)
]

pub to_next-le : (bs : List ℕ) (x limit : ℕ) → up_to_next bs x limit ≤ limit
to_next-le [] x limit = omega arith
to_next-le (b ∷ bs) x limit = let h = nearer-le x b (up_to_next bs x limit) in let i = to_next-le bs x limit in omega (arith, h, i)

nearer_both : (x b far k : ℕ) → 1 ≤ k → k < nearer x b far → (k < far) × ((x + k == b) ≡ false)
nearer_both x b far k some lt = elim (cases_lt x b) [
  | inl low ↦ let h : k < min far (b - x) = rw (lt-ltb x b low) at lt in (omega arith, ne_eqb (x + k) b (omega arith))
  | inr high ↦ let h : k < far = rw (le-ltb x b high) at lt in (h, ne_eqb (x + k) b (omega arith))
]

pub clear_to_next : (bs : List ℕ) (x limit k : ℕ) → 1 ≤ k → k < up_to_next bs x limit → IsClear bs (x + k)
clear_to_next [] x limit k some lt = refl
clear_to_next (b ∷ bs) x limit k some lt =
    let h = nearer_both x b (up_to_next bs x limit) k some lt in
    ap (λ (c : Bool). c || list_any (λ bound. x + k == bound) bs) h.1 ∙ clear_to_next bs x limit k some h.0

abbrev pub IsBound : List ℕ → ℕ → Type 0
IsBound bounds x = list_any (λ bound. x == bound) bounds ≡ true

pub or_true : (a : Bool) → (a || true) ≡ true
or_true true = refl
or_true false = refl

pub next_is_bound : (bs : List ℕ) (x limit n : ℕ) → up_to_next bs x limit ≡ n → n < limit → IsBound bs (x + n)
next_is_bound [] x limit n is lt = absurd (omega (arith, is, lt))
next_is_bound (b ∷ bs) x limit n is lt = elim (cases_lt x b) [
  | inl low ↦
      let now : min (up_to_next bs x limit) (b - x) ≡ n = rw (lt-ltb x b low) at is in
      elim (cases_lt (up_to_next bs x limit) (b - x)) [
        | inl further ↦ ap (λ (c : Bool). (x + n == b) || c) (next_is_bound bs x limit n (omega (arith, now, further)) lt) ∙ or_true (x + n == b)
        | inr nearest ↦ ap (λ (c : Bool). c || list_any (λ bound. x + n == bound) bs) (eq-eqb (x + n) b (omega (arith, now, nearest, low)))
      ]
  | inr high ↦
      let now : up_to_next bs x limit ≡ n = rw (le-ltb x b high) at is in
      ap (λ (c : Bool). (x + n == b) || c) (next_is_bound bs x limit n now lt) ∙ or_true (x + n == b)
]

-- ---- the bound at the end of a run, by the place's own holder

by_contribution : (p : Parts) (scope : ℕ → Scope) (place : PdbInternalSectionOffset) (m : ℕ) (b : Bool) → list_any (λ bound. place.offset + suc m == bound) (flat_map (contribution_bounds place) p.contributions) ≡ b
    → NoBound p (procedures_of scope (holder p.contributions place)) place (suc m) → IsBound (bounds_near p (procedures_of scope (holder p.contributions place)) place) (place.offset + suc m)
    → is_bound p scope (on place (suc m)) ≡ true
by_contribution p scope place m true at none h =
    let t : ℕ → Bool = λ bound. place.offset + suc m == bound in
    let cs = flat_map (contribution_bounds place) p.contributions in
    let others = flat_map (public_bounds place) p.publics ++ flat_map (procedure_bounds place) (procedures_of scope (holder p.contributions (on place (suc m)))) in
    list_any-append t cs others ∙ ap (λ (c : Bool). c || list_any t others) at
by_contribution p scope place m false at none h =
    let qs = procedures_of scope (holder p.contributions place) in
    let free = next_clear (flat_map (contribution_bounds place) p.contributions) place.offset m at in
    let same : holder p.contributions (on place (suc m)) ≡ holder p.contributions place =
    ap (holder p.contributions) (one_on place m) ∙ holder_step p.contributions (on place m) free ∙ holder_stays p qs place m (suc m) none (omega arith) in
    ap (λ (o : Option ModuleSectionContribution). list_any (λ bound. place.offset + suc m == bound) (bounds_near p (procedures_of scope o) place)) same ∙ h

-- where the holder is another one by then, a contribution has begun or ended there
bound_there : (p : Parts) (scope : ℕ → Scope) (place : PdbInternalSectionOffset) (n : ℕ) → 1 ≤ n → NoBound p (procedures_of scope (holder p.contributions place)) place n
    → IsBound (bounds_near p (procedures_of scope (holder p.contributions place)) place) (place.offset + n) → is_bound p scope (on place n) ≡ true
bound_there p scope place zero some none h = absurd (omega arith)
bound_there p scope place (suc m) some none h = by_contribution p scope place m (list_any (λ bound. place.offset + suc m == bound) (flat_map (contribution_bounds place) p.contributions)) refl none h

-- ---- the run

-- the lesser of a limit and the distance to the next bound by a place's own holder is a run
pub run_to_next : (p : Parts) (scope : ℕ → Scope) (place : PdbInternalSectionOffset) (limit : ℕ) → 1 ≤ limit
    → IsOneRun (database_of p scope) (place_of place) limit (up_to_next (bounds_near p (procedures_of scope (holder p.contributions place)) place) place.offset limit)
run_to_next p scope place limit some =
    let h = holder p.contributions place in
    let bounds = bounds_near p (procedures_of scope h) place in
    let n = up_to_next bounds place.offset limit in
    let one = some_to_next bounds place.offset limit some in
    let none : NoBound p (procedures_of scope h) place n = λ k first lt. clear_to_next bounds place.offset limit k first lt in
    record {
      some = one;
      within = to_next-le bounds place.offset limit;
      alike = λ k lt. ap (λ (o : Option ModuleSectionContribution). here_by p scope o (on place k)) (holder_stays p (procedures_of scope h) place k n none lt) ∙ by_stays p scope h place k n none lt;
      clear = λ k first lt. ap (λ (o : Option ModuleSectionContribution). list_any (λ bound. place.offset + k == bound) (bounds_near p (procedures_of scope o) place)) (holder_stays p (procedures_of scope h) place k n none lt) ∙ none k first lt;
      ends = λ lt. bound_there p scope place n one none (next_is_bound bounds place.offset limit n refl lt);
    }

-- the same by what the holder is
pub run_by_holder : (p : Parts) (scope : ℕ → Scope) (place : PdbInternalSectionOffset) (limit n : ℕ) (h : Option ModuleSectionContribution) → 1 ≤ limit → h ≡ holder p.contributions place
    → n ≡ up_to_next (bounds_near p (procedures_of scope h) place) place.offset limit → IsOneRun (database_of p scope) (place_of place) limit n
run_by_holder p scope place limit n h some held is =
    subst (λ (m : ℕ). IsOneRun (database_of p scope) (place_of place) limit m) (sym (is ∙ ap (λ (o : Option ModuleSectionContribution). up_to_next (bounds_near p (procedures_of scope o) place) place.offset limit) held)) (run_to_next p scope place limit some)

-- the same of what a call returned, if it returned something
pub run_if_ok : {A E : Type 0} (p : Parts) (scope : ℕ → Scope) (place : PdbInternalSectionOffset) (limit : ℕ) (h : Option ModuleSectionContribution) (r : Result (A × ℕ) E) → 1 ≤ limit → h ≡ holder p.contributions place
    → IfOk r (λ run. run.1 ≡ up_to_next (bounds_near p (procedures_of scope h) place) place.offset limit) → IfOk r (λ run. IsOneRun (database_of p scope) (place_of place) limit run.1)
run_if_ok p scope place limit h (Ok run) some held is = run_by_holder p scope place limit run.1 h some held is
run_if_ok p scope place limit h (Err e) some held is = tt
