-- The row at an offset, of rows that ascend: the last of those that begin at it or before it.
use Rattle.std.proofs.Common.{◌≡◌, ℕ, zero, suc, ◌-◌, ◌<◌, ◌≤◌, List, [], ◌∷◌, length, Option, None, Some, refl, ap, subst, ◌∙◌, arith}
use Rattle.std.specs.Prelude.{map, slice_get}
use Rattle.std.specs.Option.{option_map}
use Rattle.std.proofs.lemmas.Bool.{le-leb, lt-leb, le-ltb}
use Rattle.std.proofs.lemmas.List.{length-map, map-id}
use Rattle.std.proofs.lemmas.Option.{slice_get-get_or, slice_get-map}
use Rattle.pdb_addresses.proofs.RunSteps.{next_in_order}
use Rattle.pdb_addresses.specs.SectionOrder.{AreInOrder}
use Rattle.pdb_addresses.specs.SectionRun.{up_to_next}
use Rattle.pdb_pieces.specs.Halving.{Ascend, IsSplit}
use Rattle.pdb_module_data.specs.declared.function_rows.LineRow.{LineRow}
use Rattle.pdb_module_data.specs.FunctionLine.{later_row, row_at}
use Rattle.pdb_module_data.specs.RowPieces.{AreAscending}

ascend_at : (low : ℕ) (rows : List LineRow) (i : ℕ) (row : LineRow) → AreAscending low rows → slice_get rows i ≡ Some row → low ≤ row.start
ascend_at low [] i row h e = cc
ascend_at low (r ∷ rows) zero row h e = let same : r ≡ row = cc in subst (λ (x : LineRow). low ≤ x.start) same h.0
ascend_at low (r ∷ rows) (suc i) row h e = let k = ascend_at r.start rows i row h.1 e in omega (arith, h.0)

-- the row before a number
abbrev pub row_before : List LineRow → ℕ → Option LineRow
row_before rows zero = None
row_before rows (suc n) = slice_get rows n

-- so many rows begin at an offset or before it, and those after them past it.
pub record AreSplit (rows : List LineRow) (offset n : ℕ) : Type 0 where
  pub front : (i : ℕ) (row : LineRow) → i < n → slice_get rows i ≡ Some row → row.start ≤ offset
  pub back : (i : ℕ) (row : LineRow) → n ≤ i → slice_get rows i ≡ Some row → offset < row.start

-- none begins there or before
none_begun : (rows : List LineRow) (offset : ℕ) → ((i : ℕ) (row : LineRow) → slice_get rows i ≡ Some row → offset < row.start) → row_at rows offset ≡ None
none_begun [] offset h = refl
none_begun (row ∷ rows) offset h =
    let e = lt-leb row.start offset (h 0 row refl) in
    rw (none_begun rows offset (λ i r f. h (suc i) r f), e) refl

later_of : (row : LineRow) (o : Option LineRow) → ((r : LineRow) → o ≡ Some r → row.start ≤ r.start) → (n : ℕ) (rows : List LineRow) → o ≡ row_before rows n → n ≤ length rows → later_row (Some row) o ≡ slice_get (row ∷ rows) n
later_of row o h zero rows e l = rw e refl
later_of row None h (suc n) rows e l = let g = slice_get-get_or rows n row (omega arith) in cc
later_of row (Some r) h (suc n) rows e l = let f = le-ltb r.start row.start (h r refl) in rw f e

-- the row at an offset is the last one that begins there or before
pub row_at_split : (low : ℕ) (rows : List LineRow) (offset n : ℕ) → AreAscending low rows → n ≤ length rows → AreSplit rows offset n → row_at rows offset ≡ row_before rows n
row_at_split low [] offset zero h l s = refl
row_at_split low [] offset (suc n) h l s = absurd (omega arith)
row_at_split low (row ∷ rows) offset zero h l s = none_begun (row ∷ rows) offset (λ i r e. s.back i r (omega arith) e)
row_at_split low (row ∷ rows) offset (suc n) h l s =
    let e = le-leb row.start offset (s.front 0 row (omega arith) refl) in
    let rest = row_at_split row.start rows offset n h.1 (omega arith) record { front = λ i r k f. s.front (suc i) r (omega arith) f; back = λ i r k f. s.back (suc i) r (omega arith) f } in
    rw (e, rest) (later_of row (row_before rows n) (λ r f. below n r f) n rows refl (omega arith))
  where
    below : (m : ℕ) (r : LineRow) → row_before rows m ≡ Some r → row.start ≤ r.start
    below zero r f = cc
    below (suc m) r f = ascend_at row.start rows m r h.1 f

-- ---- what a search by halving says

-- where rows begin ascends as they do
pub starts_ascend : (low : ℕ) (rows : List LineRow) → AreAscending low rows → Ascend low (map (λ row. row.start) rows)
starts_ascend low [] h = tt
starts_ascend low (row ∷ rows) h = (h.0, starts_ascend row.start rows h.1)

-- the rows that begin at an offset or before it, by how many of their starts lie there
pub split_by : (rows : List LineRow) (offset n : ℕ) → IsSplit (map (λ row. row.start) rows) offset n → AreSplit rows offset n
split_by rows offset n at = record {
  front = λ i row l e. at.before i row.start l (slice_get-map (λ (r : LineRow). r.start) rows i ∙ ap (option_map (λ (r : LineRow). r.start)) e);
  back = λ i row l e. at.after i row.start l (slice_get-map (λ (r : LineRow). r.start) rows i ∙ ap (option_map (λ (r : LineRow). r.start)) e);
}

pub split_within : (rows : List LineRow) (offset n : ℕ) → IsSplit (map (λ row. row.start) rows) offset n → n ≤ length rows
split_within rows offset n at = simp length-map at at.bound

-- the row before a number that isn't 0
pub row_in_front : (rows : List LineRow) (n : ℕ) → (n ≡ 0 → ⊥) → row_before rows n ≡ slice_get rows (n - 1)
row_in_front rows zero h = absurd (h refl)
row_in_front rows (suc n) h = let e : suc n - 1 ≡ n = omega arith in rw e refl

-- ---- the distance to the next start, by starts in ascending order

pub next_of_ascending : (starts ascending : List ℕ) (offset far : ℕ) → AreInOrder starts ascending
    → up_to_next (map (λ n. n) ascending) offset far ≡ up_to_next starts offset far
next_of_ascending starts ascending offset far order =
    ap (λ (ns : List ℕ). up_to_next ns offset far) (map-id ascending)
    ∙ next_in_order starts ascending offset far order
