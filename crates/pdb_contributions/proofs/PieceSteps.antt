-- The numbers of contributions at places, by what these hold.
use Rattle.std.proofs.Common.{◌≡◌, ℕ, ◌+◌, ◌^◌, ◌<◌, Bool, true, false, cond, List, [], ◌∷◌, refl}
use Rattle.std.proofs.Common.{suc, arith}
use Rattle.std.specs.Prelude.{Option, None, Some, slice_get, option_and_then, if◌then◌else◌}
use Rattle.std.proofs.lemmas.Bool.{le-ltb}
use Rattle.std.proofs.lemmas.Bool.Decides.{nat_tests}
use Rattle.pdb_addresses.specs.declared.internal_section_offset.PdbInternalSectionOffset.{
  PdbInternalSectionOffset,
}
use Rattle.pdb_pieces.specs.declared.span.Mark.{Mark}
use Rattle.pdb_pieces.specs.declared.span.Span.{Span}
use Rattle.pdb_pieces.specs.Spans.{best, better, mark_over, place_number}
use Rattle.pdb_contributions.specs.ContributionPieces.{contribution_span, contribution_spans}
use Rattle.pdb_contributions.specs.ContributionPieces.{IsShort, AreShort, StandFor}
use Rattle.pdb_contributions.specs.declared.contribution.ModuleSectionContribution.{
  ModuleSectionContribution,
}
use Rattle.pdb_contributions.specs.MergedContributions.{holds, holder}

-- a mark that stands for a contribution among those of which the first has a number
abbrev StandsAs : ℕ → List ModuleSectionContribution → Option Mark
    → Option ModuleSectionContribution → Type 0
StandsAs n cs None None = Unit {0}
StandsAs n cs None (Some c) = ⊥
StandsAs n cs (Some m) None = ⊥
StandsAs n cs (Some m) (Some c) = (k : ℕ) × (m.rank ≡ 0) × (m.value ≡ n + k)
    × (slice_get cs k ≡ Some c)

-- a contribution's span is over the places that it holds
span_over : (n : ℕ) (c : ModuleSectionContribution) (place : PdbInternalSectionOffset) → IsShort c
    → place.offset < 2 ^ 32
    → mark_over (contribution_span n c) (place_number place)
    ≡ (if holds place c then Some record { rank = 0; value = n } else None)
span_over n c place short small = grind (arith, nat_tests)

one_behind : (n : ℕ) (c : ModuleSectionContribution) (cs : List ModuleSectionContribution)
    (m : Option Mark) (o : Option ModuleSectionContribution) → StandsAs (n + 1) cs m o
    → StandsAs n (c ∷ cs) m o
one_behind n c cs None None h = h
one_behind n c cs None (Some o) h = h
one_behind n c cs (Some m) None h = h
one_behind n c cs (Some m) (Some o) h = (suc (h.0), h.1, omega (arith, h.2), h.3)

first_of_two : (n : ℕ) (c : ModuleSectionContribution) (cs : List ModuleSectionContribution)
    (m : Option Mark) (o : Option ModuleSectionContribution) → StandsAs (n + 1) cs m o
    → StandsAs n (c ∷ cs) (better (Some record { rank = 0; value = n }) m) (Some c)
first_of_two n c cs None None h = (0, refl, omega arith, refl)
first_of_two n c cs None (Some o) h = absurd h
first_of_two n c cs (Some m) None h = absurd h
first_of_two n c cs (Some m) (Some o) h = let t = le-ltb 0 m.rank (omega (arith, h.1)) in
    rw t (0, refl, omega arith, refl)

stands_with : (n : ℕ) (c : ModuleSectionContribution) (cs : List ModuleSectionContribution)
    (m : Option Mark) (o : Option ModuleSectionContribution) (b : Bool) → StandsAs (n + 1) cs m o
    → StandsAs n (c ∷ cs) (better (if b then Some record { rank = 0; value = n } else None) m)
    (cond b (Some c) o)
stands_with n c cs m o true h = first_of_two n c cs m o h
stands_with n c cs m o false h = one_behind n c cs m o h

stands_at : (n : ℕ) (cs : List ModuleSectionContribution) (place : PdbInternalSectionOffset)
    → AreShort cs → place.offset < 2 ^ 32
    → StandsAs n cs (best (contribution_spans n cs) (place_number place)) (holder cs place)
stands_at n [] place short small = tt
stands_at n (c ∷ cs) place short small =
    rw (span_over n c place short.0 small)
    (stands_with n c cs _ _ (holds place c) (stands_at (n + 1) cs place short.1 small))

by_number : (cs : List ModuleSectionContribution) (m : Option Mark)
    (o : Option ModuleSectionContribution) → StandsAs 0 cs m o
    → option_and_then (λ x. slice_get cs x.value) m ≡ o
by_number cs None None h = refl
by_number cs None (Some o) h = absurd h
by_number cs (Some m) None h = absurd h
by_number cs (Some m) (Some o) h = let e : m.value ≡ h.0 = omega (arith, h.2) in rw e h.3

-- pieces that stand with the best of what contributions hold stand for these
pub stand_for : (cs : List ModuleSectionContribution) (pieces : List Span) → AreShort cs
    → ((p : ℕ) → best pieces p ≡ best (contribution_spans 0 cs) p) → StandFor pieces cs
stand_for cs pieces short same =
    record {
      each = λ place small. rw (same (place_number place))
          (by_number cs _ _ (stands_at 0 cs place short small));
    }
