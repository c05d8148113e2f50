-- The distance to the next start or end of contributions that lie apart: only the last one that
-- begins at a place or before it and the one after that can have it.
use Rattle.std.proofs.Common.{◌≡◌, ℕ, zero, suc, ◌+◌, ◌-◌, ◌^◌, ◌<◌, ◌≤◌, inl, inr, false}
use Rattle.std.proofs.Common.{List, [], ◌∷◌, refl, sym, ap, ◌∙◌, arith}
use Rattle.std.specs.Prelude.{slice_get, ◌==◌, Option}
use Rattle.std.specs.List.{flat_map}
use Rattle.std.proofs.lemmas.Bool.{cases_Bool, cases_lt}
use Rattle.std.proofs.lemmas.Bool.Decides.{nat_tests}
use Rattle.pdb_addresses.proofs.RunSteps.{past, passed}
use Rattle.pdb_addresses.specs.SectionRun.{nearer, up_to_next}
use Rattle.pdb_addresses.specs.declared.internal_section_offset.PdbInternalSectionOffset.{
  PdbInternalSectionOffset,
}
use Rattle.pdb_pieces.specs.Halving.{IsSplit}
use Rattle.pdb_pieces.specs.Spans.{place_number}
use Rattle.pdb_contributions.specs.ContributionPieces.{start_number, end_number, AreApart}
use Rattle.pdb_contributions.specs.ContributionPieces.{IsShort, AreShort}
use Rattle.pdb_contributions.specs.SectionBounds.{contribution_bounds, bounds_of_one}
use Rattle.pdb_contributions.specs.declared.contribution.ModuleSectionContribution.{
  ModuleSectionContribution,
}
use Rattle.pdb_contributions.proofs.HolderSteps.{starts, behind}
use Rattle.pdb_contributions.proofs.NextBounds.{last_asked}

abbrev Contribution : Type 0
Contribution = ModuleSectionContribution

abbrev Place : Type 0
Place = PdbInternalSectionOffset

-- the distance to the next bound of one contribution
abbrev by_one : Place → Contribution → ℕ → ℕ
by_one p c far = up_to_next (contribution_bounds p c) p.offset far

-- the distance to the next bound of several
abbrev by_all : Place → List Contribution → ℕ → ℕ
by_all p cs far = up_to_next (flat_map (contribution_bounds p) cs) p.offset far

with_first : (p : Place) (c : Contribution) (cs : List Contribution) (far : ℕ)
    → by_all p (c ∷ cs) far ≡ by_one p c (by_all p cs far)
with_first p c cs far =
    last_asked (contribution_bounds p c) (flat_map (contribution_bounds p) cs) p.offset far

-- ---- contributions past a place

-- the number of an offset in a place's section
abbrev there : Place → ℕ → ℕ
there p offset = place_number (record { section = p.section; offset = offset })

-- contributions that begin at an offset or past it have no bound that is nearer than it
further : (p : Place) (least low far : ℕ) (cs : List Contribution) → p.offset < least
    → there p least ≤ low → AreApart low cs
    → nearer p.offset least (by_all p cs far) ≡ nearer p.offset least far
further p least low far [] lt le h = refl
further p least low far (c ∷ cs) lt le h =
    let rest = further p least (end_number c) far cs lt (omega (arith, le, h.0, h.1)) h.2 in
    elim (cases_Bool (c.section_index == p.section)) [
      | inl here ↦
          let same : c.section_index ≡ p.section = grind (arith, nat_tests) in
          let n = by_all p cs far in
          let by_end = nearer p.offset c.end_offset n in
          let by_both = nearer p.offset c.start_offset by_end in
          let a = past p.offset c.start_offset by_end (omega (arith, le, h.0, same, lt)) in
          let b = past p.offset c.end_offset n (omega (arith, le, h.0, h.1, same, lt)) in
          let d = past p.offset least by_both lt in
          let e = past p.offset least n lt in
          let f = past p.offset least far lt in
          rw here (omega (arith, a, b, d, e, f, rest, le, h.0, h.1, same, lt))
      | inr other ↦ rw other rest
    ]

-- contributions of later sections have no bound in the section of a place
later : (p : Place) (low far : ℕ) (cs : List Contribution) → there p 0 + 2 ^ 32 ≤ low
    → AreApart low cs → AreShort cs → by_all p cs far ≡ far
later p low far [] le h short = refl
later p low far (c ∷ cs) le h short =
    let other : (c.section_index == p.section) ≡ false = grind (arith, nat_tests) in
    rw other (later p (end_number c) far cs (omega (arith, le, h.0, h.1)) h.2 short.1)

-- one that begins past a place in another section ends in a later one
past_section : (p : Place) (c : Contribution) → place_number p < start_number c
    → start_number c ≤ end_number c → IsShort c → (c.section_index == p.section) ≡ false
    → there p 0 + 2 ^ 32 ≤ end_number c
past_section p c lt le short other = elim (cases_lt c.section_index p.section) [
  | inl before ↦ absurd (omega (arith, lt, short.0, before))
  | inr from ↦
      let behind : p.section < c.section_index = grind (arith, nat_tests) in
      omega (arith, le, behind)
]

-- after a contribution past a place the others add nothing
first_past : (p : Place) (low far : ℕ) (c : Contribution) (cs : List Contribution)
    → place_number p < start_number c → AreApart low (c ∷ cs) → AreShort (c ∷ cs)
    → by_all p (c ∷ cs) far ≡ by_one p c far
first_past p low far c cs lt h short = elim (cases_Bool (c.section_index == p.section)) [
  | inl here ↦
      let same : c.section_index ≡ p.section = grind (arith, nat_tests) in
      let ahead : p.offset < c.end_offset = omega (arith, lt, h.1, same) in
      let rest = further p c.end_offset (end_number c) far cs ahead (omega (arith, same)) h.2 in
      rw here (ap (nearer p.offset c.start_offset) rest)
  | inr other ↦
      let le = past_section p c lt h.1 short.0 other in
      rw other (later p (end_number c) far cs le h.2 short.1)
]

-- ---- contributions before a place

-- a contribution that ends at a place or before it adds nothing
ended : (p : Place) (c : Contribution) (far : ℕ) → start_number c ≤ end_number c
    → end_number c ≤ place_number p → by_one p c far ≡ far
ended p c far le done = elim (cases_Bool (c.section_index == p.section)) [
  | inl here ↦
      let same : c.section_index ≡ p.section = grind (arith, nat_tests) in
      let a = passed p.offset c.end_offset far (omega (arith, done, same)) in
      let b = passed p.offset c.start_offset far (omega (arith, done, le, same)) in
      rw here (ap (nearer p.offset c.start_offset) a ∙ b)
  | inr other ↦ rw other refl
]

-- ---- the last one that begins at a place or before it, and the one after it

-- the distance to the next bound of one contribution, if it is there
abbrev by_found : Place → Option Contribution → ℕ → ℕ
by_found p o far = up_to_next (bounds_of_one p o) p.offset far

-- the same of the contribution with a number
abbrev by_numbered : Place → List Contribution → ℕ → ℕ → ℕ
by_numbered p cs n far = by_found p (slice_get cs n) far

-- none begins at the place or before it
none_begun : (p : Place) (low far : ℕ) (cs : List Contribution) → AreApart low cs → AreShort cs
    → IsSplit (starts cs) (place_number p) 0 → by_numbered p cs 0 far ≡ by_all p cs far
none_begun p low far [] h short s = refl
none_begun p low far (c ∷ cs) h short s =
    let lt = s.after 0 (start_number c) (omega arith) refl in
    sym (first_past p low far c cs lt h short)

-- some do: only the last of these and the one after it have a bound past the place that counts
last_begun : (p : Place) (low far n : ℕ) (cs : List Contribution) → AreApart low cs → AreShort cs
    → IsSplit (starts cs) (place_number p) (suc n)
    → by_numbered p cs n (by_numbered p cs (suc n) far) ≡ by_all p cs far
last_begun p low far n [] h short s = absurd (omega (arith, s.bound))
last_begun p low far zero (c ∷ cs) h short s =
    let rest = none_begun p (end_number c) far cs h.2 short.1
    (behind 0 c cs (place_number p) 1 (omega arith) s) in
    ap (by_one p c) rest ∙ sym (with_first p c cs far)
last_begun p low far (suc n) (c ∷ []) h short s = absurd (omega (arith, s.bound))
last_begun p low far (suc n) (c ∷ next ∷ cs) h short s =
    let begun = s.before 1 (start_number next) (omega arith) refl in
    let rest = last_begun p (end_number c) far n (next ∷ cs) h.2 short.1
    (behind (suc n) c (next ∷ cs) (place_number p) (suc (suc n)) (omega arith) s) in
    let done = ended p c (by_all p (next ∷ cs) far) h.1 (omega (arith, h.2.0, begun)) in
    rest ∙ sym (with_first p c (next ∷ cs) far ∙ done)

-- ---- the distance, by what the halving found

-- none begins there or before: it is the distance by the first one
pub none_halved : (p : Place) (far count : ℕ) (cs : List Contribution) (next : Option Contribution)
    (near : ℕ) → AreApart 0 cs → AreShort cs → IsSplit (starts cs) (place_number p) count
    → count ≡ 0 → next ≡ slice_get cs count → near ≡ by_found p next far → near ≡ by_all p cs far
none_halved p far zero cs next near h short s e is by =
    by ∙ ap (λ o. by_found p o far) is ∙ none_begun p 0 far cs h short s
none_halved p far (suc n) cs next near h short s e is by = absurd (omega arith)

-- some do: it is the distance by the last of these and the one after it
pub some_halved : (p : Place) (far count : ℕ) (cs : List Contribution)
    (next last : Option Contribution) (near nearest : ℕ) → AreApart 0 cs → AreShort cs
    → IsSplit (starts cs) (place_number p) count → (count ≡ 0 → ⊥) → next ≡ slice_get cs count
    → last ≡ slice_get cs (count - 1) → near ≡ by_found p next far
    → nearest ≡ by_found p last near → nearest ≡ by_all p cs far
some_halved p far zero cs next last near nearest h short s e is was by then = absurd (e refl)
some_halved p far (suc n) cs next last near nearest h short s e is was by then =
    let f : suc n - 1 ≡ n = omega arith in
    let found : last ≡ slice_get cs n = was ∙ ap (slice_get cs) f in
    then ∙ ap (by_found p last) (by ∙ ap (λ o. by_found p o far) is)
    ∙ ap (λ o. by_found p o (by_numbered p cs (suc n) far)) found
    ∙ last_begun p 0 far n cs h short s
