-- The numbers of rows at offsets, by what these cover.
use Rattle.std.proofs.Common.{◌≡◌, ℕ, ◌+◌, ◌^◌, ◌<◌, Bool, true, false, List, [], ◌∷◌, refl, ap, ◌∙◌, suc, arith, inl, inr}
use Rattle.std.specs.Prelude.{Option, None, Some, slice_get, option_and_then, if◌then◌else◌, nat_le}
use Rattle.std.proofs.lemmas.Bool.{lt-ltb, le-ltb, cases_lt}
use Rattle.std.proofs.lemmas.Bool.Decides.{nat_tests}
use Rattle.pdb_pieces.specs.declared.span.Mark.{Mark}
use Rattle.pdb_pieces.specs.declared.span.Span.{Span}
use Rattle.pdb_pieces.specs.Spans.{best, better, mark_over}
use Rattle.pdb_pieces.proofs.Covers.{better-none, best-append}
use Rattle.pdb_module_data.specs.declared.function_rows.LineRow.{LineRow}
use Rattle.pdb_module_data.specs.FunctionLine.{later_row, row_at}
use Rattle.pdb_module_data.specs.RowPieces.{row_span, row_spans, StandForRows}

-- a mark that stands for a row among those of which the first has a number
abbrev StandsAs : ℕ → List LineRow → Option Mark → Option LineRow → Type 0
StandsAs n rows None None = Unit {0}
StandsAs n rows None (Some row) = ⊥
StandsAs n rows (Some m) None = ⊥
StandsAs n rows (Some m) (Some row) = (k : ℕ) × (m.rank ≡ row.start) × (m.value ≡ n + k) × (slice_get rows k ≡ Some row)

-- a row's span is over the offsets from its own on
span_over : (n : ℕ) (row : LineRow) (offset : ℕ) → offset < 2 ^ 32
    → mark_over (row_span n row) offset ≡ (if nat_le row.start offset then Some record { rank = row.start; value = n } else None)
span_over n row offset small = grind (arith, nat_tests)

one_behind : (n : ℕ) (row : LineRow) (rows : List LineRow) (m : Option Mark) (o : Option LineRow) → StandsAs (n + 1) rows m o → StandsAs n (row ∷ rows) m (later_row None o)
one_behind n row rows None None h = h
one_behind n row rows None (Some o) h = h
one_behind n row rows (Some m) None h = h
one_behind n row rows (Some m) (Some o) h = (suc (h.0), h.1, omega (arith, h.2), h.3)

later_of_two : (n : ℕ) (row : LineRow) (rows : List LineRow) (m : Option Mark) (o : Option LineRow) → StandsAs (n + 1) rows m o
    → StandsAs n (row ∷ rows) (better m (Some record { rank = row.start; value = n })) (later_row (Some row) o)
later_of_two n row rows None None h = (0, refl, omega arith, refl)
later_of_two n row rows None (Some o) h = absurd h
later_of_two n row rows (Some m) None h = absurd h
later_of_two n row rows (Some m) (Some o) h = elim (cases_lt o.start row.start) [
  | inl lt ↦ (let t = lt-ltb o.start row.start lt in let u = lt-ltb m.rank row.start (omega (arith, h.1)) in rw (t, u) (0, refl, omega arith, refl))
  | inr le ↦ (let t = le-ltb o.start row.start le in let u = le-ltb m.rank row.start (omega (arith, h.1)) in rw (t, u) (suc (h.0), h.1, omega (arith, h.2), h.3))
]

stands_with : (n : ℕ) (row : LineRow) (rows : List LineRow) (m : Option Mark) (o : Option LineRow) (b : Bool) → StandsAs (n + 1) rows m o
    → StandsAs n (row ∷ rows) (better m (if b then Some record { rank = row.start; value = n } else None)) (later_row (if b then Some row else None) o)
stands_with n row rows m o true h = later_of_two n row rows m o h
stands_with n row rows m o false h = rw (better-none m) (one_behind n row rows m o h)

-- the best mark, where a row's span comes after those of the others
best_behind : (n : ℕ) (row : LineRow) (rows : List LineRow) (offset : ℕ) → offset < 2 ^ 32
    → best (row_spans n (row ∷ rows)) offset ≡ better (best (row_spans (n + 1) rows) offset) (if nat_le row.start offset then Some record { rank = row.start; value = n } else None)
best_behind n row rows offset small =
    best-append (row_spans (n + 1) rows) (row_span n row ∷ []) offset
    ∙ ap (better (best (row_spans (n + 1) rows) offset)) (better-none (mark_over (row_span n row) offset) ∙ span_over n row offset small)

stands_at : (n : ℕ) (rows : List LineRow) (offset : ℕ) → offset < 2 ^ 32 → StandsAs n rows (best (row_spans n rows) offset) (row_at rows offset)
stands_at n [] offset small = tt
stands_at n (row ∷ rows) offset small =
    rw (best_behind n row rows offset small)
    (stands_with n row rows (best (row_spans (n + 1) rows) offset) (row_at rows offset) (nat_le row.start offset) (stands_at (n + 1) rows offset small))

by_number : (rows : List LineRow) (m : Option Mark) (o : Option LineRow) → StandsAs 0 rows m o → option_and_then (λ x. slice_get rows x.value) m ≡ o
by_number rows None None h = refl
by_number rows None (Some o) h = absurd h
by_number rows (Some m) None h = absurd h
by_number rows (Some m) (Some o) h = let e : m.value ≡ h.0 = omega (arith, h.2) in rw e h.3

-- pieces that stand with the best of what rows cover stand for these
pub stand_for_rows : (rows : List LineRow) (pieces : List Span) → ((p : ℕ) → best pieces p ≡ best (row_spans 0 rows) p) → StandForRows pieces rows
stand_for_rows rows pieces same =
    record { each = λ offset small. rw (same offset) (by_number rows _ _ (stands_at 0 rows offset small)) }
