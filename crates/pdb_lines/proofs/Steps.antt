-- What one annotation changes of the rows that are still to come.
use Rattle.std.proofs.Common.{◌≡◌, ℕ, suc, ◌-◌, List, [], ◌∷◌, length, Option, None, Some, true}
use Rattle.std.proofs.Common.{false, refl, sym, ap, ◌∙◌, arith}
use Rattle.std.specs.Option.{option_or}
use Rattle.pdb_container.specs.Fault.{Fault}
use Rattle.pdb_container.specs.Listing.{Listing, ending, before}
use Rattle.pdb_symbol_records.specs.declared.annotation.BinaryAnnotation.{BinaryAnnotation}
use Rattle.pdb_symbol_records.specs.Annotations.{is_emitting}
use Rattle.pdb_subsections.specs.declared.line_info.LineInfo.{LineInfo}
use Rattle.pdb_lines.specs.declared.annotation_state.AnnotationState.{AnnotationState}
use Rattle.pdb_lines.specs.Operands.{own_length}
use Rattle.pdb_lines.specs.InlinedRows.{all_rows, row_behind, length_by, length_behind, row_of}
use Rattle.pdb_lines.specs.InlinedRows.{rows_behind, before_fault}
use Rattle.pdb_lines.specs.RowsToCome.{state_behind, completed, waiting, rows_ahead, to_come}
use Rattle.pdb_lines.specs.RowsToCome.{row_in_front}
use Rattle.pdb_lines.proofs.OneMore.{or_assoc, or_nothing, length_more, row_of_more, rows_more}

completed_or : (row : LineInfo) (x y : Option ℕ)
    → completed row (option_or x y) ≡ completed (completed row x) y
completed_or row x y = ap (λ (l : Option ℕ). record row { length = l })
    (sym (or_assoc row.length x y))

completed_by_none : (row : LineInfo) → completed row None ≡ row
completed_by_none row = ap (λ (l : Option ℕ). record row { length = l }) (or_nothing row.length)

-- the length that an annotation gives a row that waits
abbrev pub by_next : AnnotationState → LineInfo → BinaryAnnotation → LineInfo
by_next o row a = completed row (length_by o row.offset.offset row.kind [] a)

-- the row of an annotation, as far as it is known there
abbrev pub begun : AnnotationState → BinaryAnnotation → LineInfo
begun o a = row_behind (state_behind o a) [] (own_length a)

-- ---- an annotation that gives a row

module _ (o : AnnotationState) (a : BinaryAnnotation) (after : List BinaryAnnotation)
    (emits : is_emitting a ≡ true) where
  new_row : rows_behind o [] (a ∷ after) ≡ rows_ahead (state_behind o a) (Some (begun o a)) after
  unfolding rows_behind row_of waiting row_behind
  new_row = rw (emits, row_of_more o a [] a after, rows_more o a [] after) refl

  pub first_row : rows_ahead o None (a ∷ after)
      ≡ rows_ahead (state_behind o a) (Some (begun o a)) after
  unfolding waiting
  first_row = new_row

  done : (row : LineInfo) → waiting o (Some row) (a ∷ after) ≡ by_next o row a ∷ []
  unfolding waiting length_behind
  done row = rw (emits, or_nothing (length_by o row.offset.offset row.kind [] a)) refl

  pub next_row : (row : LineInfo) → rows_ahead o (Some row) (a ∷ after)
      ≡ by_next o row a ∷ rows_ahead (state_behind o a) (Some (begun o a)) after
  next_row row = rw (done row, new_row) refl

-- ---- an annotation that gives none

module _ (o : AnnotationState) (a : BinaryAnnotation) (after : List BinaryAnnotation)
    (silent : is_emitting a ≡ false) where
  no_row : rows_behind o [] (a ∷ after) ≡ rows_behind (state_behind o a) [] after
  unfolding rows_behind
  no_row = rw (silent, rows_more o a [] after) refl

  pub still_none : rows_ahead o None (a ∷ after) ≡ rows_ahead (state_behind o a) None after
  unfolding waiting
  still_none = no_row

  open_row : (row : LineInfo) → waiting o (Some row) (a ∷ after)
      ≡ waiting (state_behind o a) (Some (by_next o row a)) after
  unfolding waiting length_behind
  open_row row =
      rw (
        silent,
        length_more o a row.offset.offset row.kind [] after,
        completed_or row (length_by o row.offset.offset row.kind [] a)
            (length_behind (state_behind o a) row.offset.offset row.kind [] after),
      ) refl

  pub still_open : (row : LineInfo) → rows_ahead o (Some row) (a ∷ after)
      ≡ rows_ahead (state_behind o a) (Some (by_next o row a)) after
  still_open row = rw (open_row row, no_row) refl

-- ---- what is still to come, by what the annotations still hold

all_but_last : (fault : Option Fault) (row next : LineInfo) (rows : List LineInfo)
    → before_fault fault (row ∷ next ∷ rows) ≡ row ∷ before_fault fault (next ∷ rows)
all_but_last None row next rows = refl
all_but_last (Some e) row next rows =
    let count : length (row ∷ next ∷ rows) - 1 ≡ suc (length (next ∷ rows) - 1) = omega arith in
    rw count refl

-- an annotation that gives no whole row moves the state on, and no row comes
pub on : (o n : AnnotationState) (old new : Option LineInfo) (a : BinaryAnnotation)
    (l : Listing BinaryAnnotation)
    → rows_ahead o old (a ∷ l.items) ≡ rows_ahead n new l.items
    → to_come o old (before a l) ≡ to_come n new l
unfolding to_come
on o n old new a l step =
    ap (λ (rows : List LineInfo). record { items = before_fault l.fault rows; fault = l.fault })
    step

-- an annotation that makes a waiting row whole gives that row first
pub gives : (o n : AnnotationState) (old : Option LineInfo) (row next : LineInfo)
    (a : BinaryAnnotation) (l : Listing BinaryAnnotation)
    → rows_ahead o old (a ∷ l.items) ≡ row ∷ rows_ahead n (Some next) l.items
    → to_come o old (before a l) ≡ before row (to_come n (Some next) l)
unfolding to_come waiting
gives o n old row next a l step =
    ap (λ (rows : List LineInfo). record { items = before_fault l.fault rows; fault = l.fault })
    step
    ∙ ap (λ (rows : List LineInfo). record { items = rows; fault = l.fault })
    (all_but_last l.fault row
    (completed next (length_behind n next.offset.offset next.kind [] l.items))
    (rows_behind n [] l.items))

-- at the end a waiting row comes as it is
pub last_row : (o : AnnotationState) (row : LineInfo)
    → to_come o (Some row) (ending None) ≡ before row (to_come o None (ending None))
unfolding to_come waiting rows_behind length_behind
last_row o row = rw (completed_by_none row) refl

-- at the end without a waiting row none comes
pub no_more : (o : AnnotationState) → to_come o None (ending None) ≡ ending None
unfolding to_come waiting rows_behind
no_more o = refl

-- at a fault a waiting row doesn't come
pub fault_after : (o : AnnotationState) (pending : Option LineInfo) (e : Fault)
    → to_come o pending (ending (Some e)) ≡ ending (Some e)
unfolding to_come waiting rows_behind
fault_after o None e = refl
fault_after o (Some row) e = refl

-- what is still to come at the beginning are all rows
pub from_first : (o : AnnotationState) (l : Listing BinaryAnnotation)
    → to_come o None l ≡ all_rows o l
unfolding to_come waiting all_rows
from_first o l = refl

-- where a row comes, there is no end
pub not_ended : (o n : AnnotationState) (old new whole : Option LineInfo) (row : LineInfo)
    (a : BinaryAnnotation) (annotations l : Listing BinaryAnnotation) (total : Listing LineInfo)
    → annotations ≡ before a l → to_come o old annotations ≡ total → whole ≡ Some row
    → rows_ahead o old (a ∷ l.items) ≡ row_in_front whole (rows_ahead n new l.items)
    → total ≡ ending None → ⊥
unfolding to_come
not_ended o n old new whole row a annotations l total here so_far is step end =
    let none : to_come o old (before a l) ≡ ending None =
    ap (λ (x : Listing BinaryAnnotation). to_come o old x) (sym here) ∙ so_far ∙ end in
    let fault : l.fault ≡ None = ap (λ (x : Listing LineInfo). x.fault) none in
    let rows : before_fault l.fault (rows_ahead o old (a ∷ l.items)) ≡ [] =
    ap (λ (x : Listing LineInfo). x.items) none in
    let some : row ∷ rows_ahead n new l.items ≡ [] = rw (fault, step, is) at rows in
    cc some
