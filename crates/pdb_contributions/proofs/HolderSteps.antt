-- The contribution that holds a place, of contributions that lie apart: only the last one that
-- begins there or before can.
use Rattle.std.proofs.Common.{◌≡◌, ℕ, zero, suc, ◌-◌, ◌<◌, ◌≤◌, Bool, false, List, [], ◌∷◌}
use Rattle.std.proofs.Common.{Option, None, Some, refl, sym, ap, ◌∙◌, arith}
use Rattle.std.specs.Prelude.{map, slice_get, option_and_then, if◌then◌else◌}
use Rattle.std.proofs.lemmas.Bool.Decides.{nat_tests}
use Rattle.pdb_addresses.specs.declared.internal_section_offset.PdbInternalSectionOffset.{
  PdbInternalSectionOffset,
}
use Rattle.pdb_pieces.specs.Halving.{Ascend, IsSplit}
use Rattle.pdb_pieces.specs.Spans.{place_number}
use Rattle.pdb_contributions.specs.ContributionPieces.{start_number, end_number, AreApart}
use Rattle.pdb_contributions.specs.declared.contribution.ModuleSectionContribution.{
  ModuleSectionContribution,
}
use Rattle.pdb_contributions.specs.MergedContributions.{holds, holder}

-- where contributions begin
abbrev pub starts : List ModuleSectionContribution → List ℕ
starts cs = map (λ c. start_number c) cs

lower : (low from : ℕ) (numbers : List ℕ) → low ≤ from → Ascend from numbers → Ascend low numbers
lower low from [] le h = tt
lower low from (n ∷ numbers) le h = (omega (arith, h.0), h.1)

pub apart_ascend : (low : ℕ) (cs : List ModuleSectionContribution) → AreApart low cs
    → Ascend low (starts cs)
apart_ascend low [] h = tt
apart_ascend low (c ∷ cs) h =
    let rest = apart_ascend (end_number c) cs h.2 in
    (h.0, lower (start_number c) (end_number c) (starts cs) h.1 rest)

begins_past : (c : ModuleSectionContribution) (place : PdbInternalSectionOffset)
    → place_number place < start_number c → holds place c ≡ false
begins_past c place h = grind (arith, nat_tests)

ends_before : (c : ModuleSectionContribution) (place : PdbInternalSectionOffset)
    → end_number c ≤ place_number place → holds place c ≡ false
ends_before c place h = grind (arith, nat_tests)

-- a contribution that may be there, if it holds the place
abbrev pub if_holds : PdbInternalSectionOffset → Option ModuleSectionContribution
    → Option ModuleSectionContribution
if_holds place o = option_and_then (λ c. if holds place c then Some c else None) o

pub behind : (n : ℕ) (c : ModuleSectionContribution) (cs : List ModuleSectionContribution)
    (place count : ℕ) → n ≡ count - 1 → IsSplit (starts (c ∷ cs)) place count
    → IsSplit (starts cs) place n
behind n c cs place zero e s = record {
  bound = omega arith;
  before = λ i m l f. absurd (omega arith);
  after = λ i m l f. s.after (suc i) m (omega arith) f;
}
behind n c cs place (suc count) e s = record {
  bound = omega (arith, s.bound);
  before = λ i m l f. s.before (suc i) m (omega arith) f;
  after = λ i m l f. s.after (suc i) m (omega arith) f;
}

-- none begins at the place or before it
none_holds : (cs : List ModuleSectionContribution) (place : PdbInternalSectionOffset)
    → IsSplit (starts cs) (place_number place) 0 → holder cs place ≡ None
none_holds [] place s = refl
none_holds (c ∷ cs) place s =
    let past = begins_past c place (s.after 0 (start_number c) (omega arith) refl) in
    rw past (none_holds cs place (behind 0 c cs (place_number place) 0 (omega arith) s))

-- only the last of those that begin at the place or before it can hold it
last_holds : (low : ℕ) (cs : List ModuleSectionContribution) (place : PdbInternalSectionOffset)
    (n : ℕ) → AreApart low cs → IsSplit (starts cs) (place_number place) (suc n)
    → holder cs place ≡ if_holds place (slice_get cs n)
last_holds low [] place n h s = absurd (omega (arith, s.bound))
last_holds low (c ∷ cs) place zero h s =
    rw (none_holds cs place (behind 0 c cs (place_number place) 1 (omega arith) s)) refl
last_holds low (c ∷ []) place (suc n) h s = absurd (omega (arith, s.bound))
last_holds low (c ∷ next ∷ cs) place (suc n) h s =
    let begun = s.before 1 (start_number next) (omega arith) refl in
    let done = ends_before c place (omega (arith, h.2.0, begun)) in
    rw done
    (last_holds (end_number c) (next ∷ cs) place n h.2
    (behind (suc n) c (next ∷ cs) (place_number place) (suc (suc n)) (omega arith) s))

-- the holder of a place, by how many begin there or before
pub none_halved : (cs : List ModuleSectionContribution) (place : PdbInternalSectionOffset)
    (count : ℕ) → IsSplit (starts cs) (place_number place) count → count ≡ 0
    → holder cs place ≡ None
none_halved cs place zero s e = none_holds cs place s
none_halved cs place (suc n) s e = absurd (omega arith)

pub last_halved : (cs : List ModuleSectionContribution) (place : PdbInternalSectionOffset)
    (count : ℕ) → AreApart 0 cs → IsSplit (starts cs) (place_number place) count
    → (count ≡ 0 → ⊥) → holder cs place ≡ if_holds place (slice_get cs (count - 1))
last_halved cs place zero h s e = absurd (e refl)
last_halved cs place (suc n) h s e =
    let f : suc n - 1 ≡ n = omega arith in rw f (last_holds 0 cs place n h s)

-- the last one, if it is there, as a test says whether it holds the place
pub last_tested : (cs : List ModuleSectionContribution) (place : PdbInternalSectionOffset)
    (count : ℕ) (last : ModuleSectionContribution) (held : Bool) → AreApart 0 cs
    → IsSplit (starts cs) (place_number place) count → (count ≡ 0 → ⊥)
    → Some last ≡ slice_get cs (count - 1) → held ≡ holds place last
    → (if held then Some last else None) ≡ holder cs place
last_tested cs place count last held h s e is tested =
    rw tested (sym (last_halved cs place count h s e ∙ ap (if_holds place) (sym is)))

pub last_missing : (cs : List ModuleSectionContribution) (place : PdbInternalSectionOffset)
    (count : ℕ) → AreApart 0 cs → IsSplit (starts cs) (place_number place) count
    → (count ≡ 0 → ⊥) → None ≡ slice_get cs (count - 1) → None ≡ holder cs place
last_missing cs place count h s e is =
    sym (last_halved cs place count h s e ∙ ap (if_holds place) (sym is))
