-- The row of an inlined call over a place: of rows that lie apart the last one that begins there or
-- before, else by pieces.
use Rattle.std.proofs.Common.{◌≡◌, ℕ, zero, suc, ◌+◌, ◌-◌, ◌^◌, ◌<◌, ◌≤◌, Bool, true, false, List, [], ◌∷◌, Option, None, Some, refl, sym, ap, ◌∙◌, arith}
use Rattle.std.specs.Prelude.{map, slice_get, option_and_then, if◌then◌else◌}
use Rattle.std.specs.List.{find}
use Rattle.std.proofs.lemmas.Bool.{le-ltb}
use Rattle.std.proofs.lemmas.Bool.Decides.{nat_tests}
use Rattle.pdb_addresses.specs.declared.internal_section_offset.PdbInternalSectionOffset.{PdbInternalSectionOffset}
use Rattle.pdb_pieces.specs.declared.span.Mark.{Mark}
use Rattle.pdb_pieces.specs.declared.span.Span.{Span}
use Rattle.pdb_pieces.specs.Halving.{Ascend, IsSplit}
use Rattle.pdb_pieces.specs.Spans.{best, better, place_number}
use Rattle.pdb_module_data.specs.declared.call_rows.CallRow.{CallRow}
use Rattle.pdb_module_data.specs.InlinePieces.{row_spans, covers_kept, AreApart, AreShortRows, StandForFirst}
use Rattle.pdb_module_data.proofs.InlineSteps.{span_over}

-- ---- pieces

-- a mark that stands for a row among those of which the first has a number
abbrev StandsAs : ℕ → List CallRow → Option Mark → Option CallRow → Type 0
StandsAs n rows None None = Unit {0}
StandsAs n rows None (Some row) = ⊥
StandsAs n rows (Some m) None = ⊥
StandsAs n rows (Some m) (Some row) = (k : ℕ) × (m.rank ≡ 0) × (m.value ≡ n + k) × (slice_get rows k ≡ Some row)

one_behind : (n : ℕ) (row : CallRow) (rows : List CallRow) (m : Option Mark) (o : Option CallRow) → StandsAs (n + 1) rows m o → StandsAs n (row ∷ rows) m o
one_behind n row rows None None h = h
one_behind n row rows None (Some o) h = h
one_behind n row rows (Some m) None h = h
one_behind n row rows (Some m) (Some o) h = (suc (h.0), h.1, omega (arith, h.2), h.3)

-- of equal ranks the first counts
first_of_two : (n : ℕ) (row : CallRow) (rows : List CallRow) (m : Option Mark) (o : Option CallRow) → StandsAs (n + 1) rows m o
    → StandsAs n (row ∷ rows) (better (Some record { rank = 0; value = n }) m) (Some row)
first_of_two n row rows None o h = (0, refl, omega arith, refl)
first_of_two n row rows (Some m) None h = absurd h
first_of_two n row rows (Some m) (Some o) h = let t = le-ltb 0 m.rank (omega (arith, h.1)) in rw t (0, refl, omega arith, refl)

stands_with : (n : ℕ) (row : CallRow) (rows : List CallRow) (m : Option Mark) (o : Option CallRow) (b : Bool) → StandsAs (n + 1) rows m o
    → StandsAs n (row ∷ rows) (better (if b then Some record { rank = 0; value = n } else None) m) (if b then Some row else o)
stands_with n row rows m o true h = first_of_two n row rows m o h
stands_with n row rows m o false h = one_behind n row rows m o h

stands_at : (n : ℕ) (rows : List CallRow) (place : PdbInternalSectionOffset) → AreShortRows rows → place.offset < 2 ^ 32
    → StandsAs n rows (best (row_spans n rows) (place_number place)) (find (covers_kept place) rows)
stands_at n [] place short small = tt
stands_at n (row ∷ rows) place short small =
    rw (span_over n 0 row place short.0 small)
    (stands_with n row rows (best (row_spans (n + 1) rows) (place_number place)) (find (covers_kept place) rows) (covers_kept place row) (stands_at (n + 1) rows place short.1 small))

by_number : (rows : List CallRow) (m : Option Mark) (o : Option CallRow) → StandsAs 0 rows m o → option_and_then (λ x. slice_get rows x.value) m ≡ o
by_number rows None None h = refl
by_number rows None (Some o) h = absurd h
by_number rows (Some m) None h = absurd h
by_number rows (Some m) (Some o) h = let e : m.value ≡ h.0 = omega (arith, h.2) in rw e h.3

-- pieces that stand with the best of what rows cover stand for the first of these
pub stand_for_first : (rows : List CallRow) (pieces : List Span) → AreShortRows rows → ((p : ℕ) → best pieces p ≡ best (row_spans 0 rows) p) → StandForFirst pieces rows
stand_for_first rows pieces short same =
    record { each = λ place small. rw (same (place_number place)) (by_number rows _ _ (stands_at 0 rows place short small)) }

-- ---- rows that lie apart

lower : (low from : ℕ) (numbers : List ℕ) → low ≤ from → Ascend from numbers → Ascend low numbers
lower low from [] le h = tt
lower low from (n ∷ numbers) le h = (omega (arith, h.0), h.1)

pub apart_ascend : (low : ℕ) (rows : List CallRow) → AreApart low rows → Ascend low (map (λ row. place_number row.offset) rows)
apart_ascend low [] h = tt
apart_ascend low (row ∷ rows) h =
    let rest = apart_ascend (place_number row.offset + row.length) rows h.1 in
    (h.0, lower (place_number row.offset) (place_number row.offset + row.length) (map (λ r. place_number r.offset) rows) (omega arith) rest)

begins_past : (row : CallRow) (place : PdbInternalSectionOffset) → place_number place < place_number row.offset → covers_kept place row ≡ false
begins_past row place h = grind (arith, nat_tests)

ends_before : (row : CallRow) (place : PdbInternalSectionOffset) → place_number row.offset + row.length ≤ place_number place → covers_kept place row ≡ false
ends_before row place h = grind (arith, nat_tests)

-- a row that may be there, if it covers the place
abbrev pub if_over : PdbInternalSectionOffset → Option CallRow → Option CallRow
if_over place row = option_and_then (λ r. if covers_kept place r then Some r else None) row

behind : (n : ℕ) (row : CallRow) (rows : List CallRow) (place count : ℕ) → n ≡ count - 1 → IsSplit (map (λ r. place_number r.offset) (row ∷ rows)) place count → IsSplit (map (λ r. place_number r.offset) rows) place n
behind n row rows place zero e s = record {
  bound = omega arith;
  before = λ i m l f. absurd (omega arith);
  after = λ i m l f. s.after (suc i) m (omega arith) f;
}
behind n row rows place (suc count) e s = record {
  bound = omega (arith, s.bound);
  before = λ i m l f. s.before (suc i) m (omega arith) f;
  after = λ i m l f. s.after (suc i) m (omega arith) f;
}

-- none begins at the place or before it
none_over : (rows : List CallRow) (place : PdbInternalSectionOffset) → IsSplit (map (λ r. place_number r.offset) rows) (place_number place) 0 → find (covers_kept place) rows ≡ None
none_over [] place s = refl
none_over (row ∷ rows) place s =
    let past = begins_past row place (s.after 0 (place_number row.offset) (omega arith) refl) in
    rw past (none_over rows place (behind 0 row rows (place_number place) 0 (omega arith) s))

-- only the last of those that begin at the place or before it can be over it
last_over : (low : ℕ) (rows : List CallRow) (place : PdbInternalSectionOffset) (n : ℕ) → AreApart low rows → IsSplit (map (λ r. place_number r.offset) rows) (place_number place) (suc n)
    → find (covers_kept place) rows ≡ if_over place (slice_get rows n)
last_over low [] place n h s = absurd (omega (arith, s.bound))
last_over low (row ∷ rows) place zero h s = rw (none_over rows place (behind 0 row rows (place_number place) 1 (omega arith) s)) refl
last_over low (row ∷ []) place (suc n) h s = absurd (omega (arith, s.bound))
last_over low (row ∷ next ∷ rows) place (suc n) h s =
    let begun = s.before 1 (place_number next.offset) (omega arith) refl in
    let done = ends_before row place (omega (arith, h.1.0, begun)) in
    rw done (last_over (place_number row.offset + row.length) (next ∷ rows) place n h.1 (behind (suc n) row (next ∷ rows) (place_number place) (suc (suc n)) (omega arith) s))

-- the row over a place, by how many begin there or before
pub none_halved : (rows : List CallRow) (place : PdbInternalSectionOffset) (count : ℕ) → IsSplit (map (λ r. place_number r.offset) rows) (place_number place) count → count ≡ 0 → find (covers_kept place) rows ≡ None
none_halved rows place zero s e = none_over rows place s
none_halved rows place (suc n) s e = absurd (omega arith)

pub last_halved : (rows : List CallRow) (place : PdbInternalSectionOffset) (count : ℕ) → AreApart 0 rows → IsSplit (map (λ r. place_number r.offset) rows) (place_number place) count → (count ≡ 0 → ⊥)
    → find (covers_kept place) rows ≡ if_over place (slice_get rows (count - 1))
last_halved rows place zero h s e = absurd (e refl)
last_halved rows place (suc n) h s e = let f : suc n - 1 ≡ n = omega arith in rw f (last_over 0 rows place n h s)

-- the last row, if it is there, as a test says whether it covers the place
pub row_tested : (rows : List CallRow) (place : PdbInternalSectionOffset) (count : ℕ) (last : CallRow) (over : Bool) → AreApart 0 rows → IsSplit (map (λ r. place_number r.offset) rows) (place_number place) count → (count ≡ 0 → ⊥)
    → Some last ≡ slice_get rows (count - 1) → over ≡ covers_kept place last → (if over then Some last else None) ≡ find (covers_kept place) rows
row_tested rows place count last over h s e is tested = rw tested (sym (last_halved rows place count h s e ∙ ap (if_over place) (sym is)))

pub row_missing : (rows : List CallRow) (place : PdbInternalSectionOffset) (count : ℕ) → AreApart 0 rows → IsSplit (map (λ r. place_number r.offset) rows) (place_number place) count → (count ≡ 0 → ⊥)
    → None ≡ slice_get rows (count - 1) → None ≡ find (covers_kept place) rows
row_missing rows place count h s e is = sym (last_halved rows place count h s e ∙ ap (if_over place) (sym is))
