-- The numbers of procedures at places, by what these cover.
use Rattle.std.proofs.Common.{◌≡◌, ℕ, ◌+◌, ◌^◌, ◌<◌, Bool, true, false, List, [], ◌∷◌, refl, suc, arith, inl, inr}
use Rattle.std.specs.Prelude.{Option, None, Some, slice_get, option_and_then, if◌then◌else◌}
use Rattle.std.proofs.lemmas.Bool.{lt-ltb, le-ltb, cases_lt}
use Rattle.std.proofs.lemmas.Bool.Decides.{nat_tests}
use Rattle.pdb_addresses.specs.declared.internal_section_offset.PdbInternalSectionOffset.{PdbInternalSectionOffset}
use Rattle.pdb_pieces.specs.declared.span.Mark.{Mark}
use Rattle.pdb_pieces.specs.declared.span.Span.{Span}
use Rattle.pdb_pieces.specs.Spans.{best, better, mark_over, place_number}
use Rattle.pdb_module_data.specs.ProcedurePieces.{procedure_span, procedure_spans, IsShort, AreShort, StandFor}
use Rattle.pdb_module_data.specs.Procedures.{Procedure, contains, later, over}

-- a mark that stands for a procedure among those of which the first has a number
abbrev StandsAs : ℕ → List Procedure → Option Mark → Option Procedure → Type 0
StandsAs n qs None None = Unit {0}
StandsAs n qs None (Some q) = ⊥
StandsAs n qs (Some m) None = ⊥
StandsAs n qs (Some m) (Some q) = (k : ℕ) × (m.rank ≡ (q.offset).offset) × (m.value ≡ n + k) × (slice_get qs k ≡ Some q)

-- a procedure's span is over the places that it contains
span_over : (n : ℕ) (q : Procedure) (place : PdbInternalSectionOffset) → IsShort q → place.offset < 2 ^ 32
    → mark_over (procedure_span n q) (place_number place) ≡ (if contains q place then Some record { rank = (q.offset).offset; value = n } else None)
span_over n q place short small = grind (arith, nat_tests)

one_behind : (n : ℕ) (q : Procedure) (qs : List Procedure) (m : Option Mark) (o : Option Procedure) → StandsAs (n + 1) qs m o → StandsAs n (q ∷ qs) m o
one_behind n q qs None None h = h
one_behind n q qs None (Some o) h = h
one_behind n q qs (Some m) None h = h
one_behind n q qs (Some m) (Some o) h = (suc (h.0), h.1, omega (arith, h.2), h.3)

later_of_two : (n : ℕ) (q : Procedure) (qs : List Procedure) (m : Option Mark) (o : Option Procedure) → StandsAs (n + 1) qs m o
    → StandsAs n (q ∷ qs) (better (Some record { rank = (q.offset).offset; value = n }) m) (later (Some q) o)
later_of_two n q qs None None h = (0, refl, omega arith, refl)
later_of_two n q qs None (Some o) h = absurd h
later_of_two n q qs (Some m) None h = absurd h
later_of_two n q qs (Some m) (Some o) h = elim (cases_lt (q.offset).offset (o.offset).offset) [
  | inl lt ↦ (let t = lt-ltb (q.offset).offset (o.offset).offset lt in let u = lt-ltb (q.offset).offset m.rank (omega (arith, h.1)) in rw (t, u) (suc (h.0), h.1, omega (arith, h.2), h.3))
  | inr le ↦ (let t = le-ltb (q.offset).offset (o.offset).offset le in let u = le-ltb (q.offset).offset m.rank (omega (arith, h.1)) in rw (t, u) (0, refl, omega arith, refl))
]

stands_with : (n : ℕ) (q : Procedure) (qs : List Procedure) (m : Option Mark) (o : Option Procedure) (b : Bool) → StandsAs (n + 1) qs m o
    → StandsAs n (q ∷ qs) (better (if b then Some record { rank = (q.offset).offset; value = n } else None) m) (later (if b then Some q else None) o)
stands_with n q qs m o true h = later_of_two n q qs m o h
stands_with n q qs m o false h = one_behind n q qs m o h

stands_at : (n : ℕ) (qs : List Procedure) (place : PdbInternalSectionOffset) → AreShort qs → place.offset < 2 ^ 32 → StandsAs n qs (best (procedure_spans n qs) (place_number place)) (over qs place)
stands_at n [] place short small = tt
stands_at n (q ∷ qs) place short small =
    rw (span_over n q place short.0 small) (stands_with n q qs _ _ (contains q place) (stands_at (n + 1) qs place short.1 small))

by_number : (qs : List Procedure) (m : Option Mark) (o : Option Procedure) → StandsAs 0 qs m o → option_and_then (λ x. slice_get qs x.value) m ≡ o
by_number qs None None h = refl
by_number qs None (Some o) h = absurd h
by_number qs (Some m) None h = absurd h
by_number qs (Some m) (Some o) h = let e : m.value ≡ h.0 = omega (arith, h.2) in rw e h.3

-- pieces that stand with the best of what procedures cover stand for these
pub stand_for : (qs : List Procedure) (pieces : List Span) → AreShort qs → ((p : ℕ) → best pieces p ≡ best (procedure_spans 0 qs) p) → StandFor pieces qs
stand_for qs pieces short same =
    record { each = λ place small. rw (same (place_number place)) (by_number qs _ _ (stands_at 0 qs place short small)) }
