-- One more annotation before a row, and what is in force after that annotation.
use Rattle.std.proofs.Common.{◌≡◌, ℕ, ◌+◌, ◌%◌, ◌^◌, List, [], ◌∷◌, ◌++◌, length, Option, None}
use Rattle.std.proofs.Common.{Some, refl, sym, ap, ◌∙◌, arith}
use Rattle.std.specs.Prelude.{unwrap_or}
use Rattle.std.specs.Option.{option_or}
use Rattle.std.proofs.lemmas.List.Sums.{sum_by-cons}
use Rattle.std.proofs.Math.Nat.{mod-add-mod}
use Rattle.pdb_symbol_records.specs.declared.annotation.BinaryAnnotation.{BinaryAnnotation}
use Rattle.pdb_symbol_records.specs.declared.annotation.BinaryAnnotation.TheVariants as kinds
use Rattle.pdb_subsections.specs.declared.line_info.LineInfoKind.{LineInfoKind}
use Rattle.pdb_lines.specs.declared.annotation_state.AnnotationState.{AnnotationState}
use Rattle.pdb_lines.specs.Operands.{last_given, behind_last, total, code_offset, code_base}
use Rattle.pdb_lines.specs.Operands.{offset_change, changed_file, line_change, line_length}
use Rattle.pdb_lines.specs.Operands.{range_kind, first_column, last_column, column_change}
use Rattle.pdb_lines.specs.Operands.{own_length}
use Rattle.pdb_lines.specs.InlinedRows.{place_behind, line_behind, last_line_behind}
use Rattle.pdb_lines.specs.InlinedRows.{last_column_behind, kind_behind, row_behind, length_by}
use Rattle.pdb_lines.specs.InlinedRows.{length_behind, row_of, rows_behind}
use Rattle.pdb_lines.specs.RowsToCome.{moved_on, state_behind}

-- ---- options

-- of three that may be there the first that is, whichever two are asked first
pub or_assoc : {X : Type 0} (x y z : Option X)
    → option_or (option_or x y) z ≡ option_or x (option_or y z)
or_assoc None y z = refl
or_assoc (Some x) y z = refl

-- one that may be there, or else none, is that one
pub or_nothing : {X : Type 0} (x : Option X) → option_or x None ≡ x
or_nothing None = refl
or_nothing (Some x) = refl

or_unwrap : {X : Type 0} (x y : Option X) (d : X)
    → unwrap_or (option_or x y) d ≡ unwrap_or x (unwrap_or y d)
or_unwrap None y d = refl
or_unwrap (Some x) y d = refl

or_none_left : {X : Type 0} (x y : Option X) → option_or x y ≡ None → x ≡ None
or_none_left None y none = refl
or_none_left (Some x) y none = cc

or_none_right : {X : Type 0} (x y : Option X) → option_or x y ≡ None → y ≡ None
or_none_right None y none = none
or_none_right (Some x) y none = cc

-- ---- sums

moved_plus : (change : Option ℕ) (n s : ℕ) → (n + (unwrap_or change 0 + s)) % 2 ^ 32
    ≡ (moved_on change n + s) % 2 ^ 32
moved_plus None n s = ap (λ k. k % 2 ^ 32) (omega arith)
moved_plus (Some d) n s = ap (λ k. k % 2 ^ 32) (omega arith) ∙ sym (mod-add-mod (n + d) (2 ^ 32) s)

more_plus : (x y b : ℕ) → x % 2 ^ 32 ≡ y % 2 ^ 32 → (x + b) % 2 ^ 32 ≡ (y + b) % 2 ^ 32
more_plus x y b same = sym (mod-add-mod x (2 ^ 32) b) ∙ ap (λ k. (k + b) % 2 ^ 32) same
    ∙ mod-add-mod y (2 ^ 32) b

module _ {A : Type 0} (given : A → Option ℕ) where
  behind_none : (xs : List A) → last_given given xs ≡ None → behind_last given xs ≡ xs
  behind_none [] none = refl
  behind_none (a ∷ xs) none =
      rw (
        or_none_left (last_given given xs) (given a) none,
        or_none_right (last_given given xs) (given a) none,
      ) refl

  module _ (change : A → Option ℕ) (a : A) (xs : List A) where
    -- the last value was given after the first annotation, by it, or before it
    sum_last : (l n : ℕ) → last_given given xs ≡ Some l
        → (unwrap_or (last_given given (a ∷ xs)) n + total change (behind_last given (a ∷ xs))) %
        2 ^ 32
        ≡ (unwrap_or (last_given given xs) (moved_on (change a) (unwrap_or (given a) n))
        + total change (behind_last given xs)) % 2 ^ 32
    sum_last l n last = rw last refl

    sum_first : (l n : ℕ) → last_given given xs ≡ None → given a ≡ Some l → change a ≡ None
        → (unwrap_or (last_given given (a ∷ xs)) n + total change (behind_last given (a ∷ xs))) %
        2 ^ 32
        ≡ (unwrap_or (last_given given xs) (moved_on (change a) (unwrap_or (given a) n))
        + total change (behind_last given xs)) % 2 ^ 32
    sum_first l n none first still = rw (behind_none xs none, none, first, still) refl

    sum_before : (n : ℕ) → last_given given xs ≡ None → given a ≡ None
        → (unwrap_or (last_given given (a ∷ xs)) n + total change (behind_last given (a ∷ xs))) %
        2 ^ 32
        ≡ (unwrap_or (last_given given xs) (moved_on (change a) (unwrap_or (given a) n))
        + total change (behind_last given xs)) % 2 ^ 32
    sum_before n none first =
        rw (behind_none xs none, none, first, sum_by-cons (λ b. unwrap_or (change b) 0) a xs)
        (moved_plus (change a) n (total change xs))

    sum_by_first : (n : ℕ) (first : Option ℕ) → last_given given xs ≡ None → given a ≡ first
        → ((l : ℕ) → given a ≡ Some l → change a ≡ None)
        → (unwrap_or (last_given given (a ∷ xs)) n + total change (behind_last given (a ∷ xs))) %
        2 ^ 32
        ≡ (unwrap_or (last_given given xs) (moved_on (change a) (unwrap_or (given a) n))
        + total change (behind_last given xs)) % 2 ^ 32
    sum_by_first n None none is still = sum_before n none is
    sum_by_first n (Some l) none is still = sum_first l n none is (still l is)

    sum_by_last : (n : ℕ) (last : Option ℕ) → last_given given xs ≡ last
        → ((l : ℕ) → given a ≡ Some l → change a ≡ None)
        → (unwrap_or (last_given given (a ∷ xs)) n + total change (behind_last given (a ∷ xs))) %
        2 ^ 32
        ≡ (unwrap_or (last_given given xs) (moved_on (change a) (unwrap_or (given a) n))
        + total change (behind_last given xs)) % 2 ^ 32
    sum_by_last n None is still = sum_by_first n (given a) is refl still
    sum_by_last n (Some l) is still = sum_last l n is

-- ---- what an annotation that gives an offset or a column doesn't change besides

still_offset : (a : BinaryAnnotation) (n : ℕ) → code_offset a ≡ Some n → offset_change a ≡ None
still_offset (kinds.CodeOffset offset) n gives = refl
still_offset a n gives = cc

still_column : (a : BinaryAnnotation) (n : ℕ) → last_column a ≡ Some n → column_change a ≡ None
still_column (kinds.ChangeColumnEnd column) n gives = refl
still_column a n gives = cc

-- ---- the parts of a row

module _ (o : AnnotationState) (a : BinaryAnnotation) (xs : List BinaryAnnotation) where
  pub place_more : place_behind o (a ∷ xs) ≡ place_behind (state_behind o a) xs
  unfolding place_behind
  place_more =
      let offset = sum_by_last code_offset offset_change a xs o.offset (last_given code_offset xs)
      refl (still_offset a) in
      rw (or_unwrap (last_given code_base xs) (code_base a) o.base)
      (more_plus (unwrap_or (last_given code_offset (a ∷ xs)) o.offset
      + total offset_change (behind_last code_offset (a ∷ xs))) _
      (unwrap_or (last_given code_base xs) (unwrap_or (code_base a) o.base)) offset)

  line_more : line_behind o (a ∷ xs) ≡ line_behind (state_behind o a) xs
  unfolding line_behind
  line_more = rw (sum_by-cons (λ b. unwrap_or (line_change b) 0) a xs)
      (moved_plus (line_change a) o.line (total line_change xs))

  last_line_more : last_line_behind o (a ∷ xs) ≡ last_line_behind (state_behind o a) xs
  unfolding last_line_behind
  last_line_more =
      rw (line_more, or_unwrap (last_given line_length xs) (line_length a) o.line_length) refl

  column_last : (l : ℕ) → last_given last_column xs ≡ Some l
      → last_column_behind o (a ∷ xs) ≡ last_column_behind (state_behind o a) xs
  unfolding last_column_behind
  column_last l last = rw last refl

  column_first : (l : ℕ) → last_given last_column xs ≡ None → last_column a ≡ Some l
      → last_column_behind o (a ∷ xs) ≡ last_column_behind (state_behind o a) xs
  unfolding last_column_behind
  column_first l none first =
      rw (behind_none last_column xs none, none, first, still_column a l first) refl

  column_before : (start : Option ℕ) → o.last_column ≡ start → last_given last_column xs ≡ None
      → last_column a ≡ None → last_column_behind o (a ∷ xs)
      ≡ last_column_behind (state_behind o a) xs
  unfolding last_column_behind
  column_before None is none first = rw (none, first, is) refl
  column_before (Some column) is none first =
      rw (
        behind_none last_column xs none,
        none,
        first,
        is,
        sum_by-cons (λ b. unwrap_or (column_change b) 0) a xs,
      )
      (ap (λ n. Some n) (moved_plus (column_change a) column (total column_change xs)))

  column_by_first : (first : Option ℕ) → last_given last_column xs ≡ None → last_column a ≡ first
      → last_column_behind o (a ∷ xs) ≡ last_column_behind (state_behind o a) xs
  column_by_first None none is = column_before o.last_column refl none is
  column_by_first (Some l) none is = column_first l none is

  column_by_last : (last : Option ℕ) → last_given last_column xs ≡ last
      → last_column_behind o (a ∷ xs) ≡ last_column_behind (state_behind o a) xs
  column_by_last None is = column_by_first (last_column a) is refl
  column_by_last (Some l) is = column_last l is

  kind_more : kind_behind o (a ∷ xs) ≡ kind_behind (state_behind o a) xs
  kind_more = or_unwrap (last_given range_kind xs) (range_kind a) o.kind

  row_more : (length : Option ℕ) → row_behind o (a ∷ xs) length
      ≡ row_behind (state_behind o a) xs length
  unfolding row_behind
  row_more length =
      rw (
        place_more,
        line_more,
        last_line_more,
        column_by_last (last_given last_column xs) refl,
        or_unwrap (last_given range_kind xs) (range_kind a) o.kind,
        or_unwrap (last_given changed_file xs) (changed_file a) o.file,
        or_assoc (last_given first_column xs) (first_column a) o.first_column,
      ) refl

-- ---- lengths and rows

module _ (o : AnnotationState) (a : BinaryAnnotation) where
  length_by_more : (start : ℕ) (kind : LineInfoKind) (xs : List BinaryAnnotation)
      (b : BinaryAnnotation) → length_by o start kind (a ∷ xs) b
      ≡ length_by (state_behind o a) start kind xs b
  unfolding length_by
  length_by_more start kind xs b = rw (kind_more o a xs, place_more o a (xs ++ b ∷ [])) refl

  pub length_more : (start : ℕ) (kind : LineInfoKind) (xs after : List BinaryAnnotation)
      → length_behind o start kind (a ∷ xs) after
      ≡ length_behind (state_behind o a) start kind xs after
  unfolding length_behind
  length_more start kind xs [] = refl
  length_more start kind xs (b ∷ after) =
      rw (length_by_more start kind xs b, length_more start kind (xs ++ b ∷ []) after) refl

  pub row_of_more : (xs : List BinaryAnnotation) (b : BinaryAnnotation)
      (after : List BinaryAnnotation) → row_of o (a ∷ xs) b after
      ≡ row_of (state_behind o a) xs b after
  unfolding row_of
  row_of_more xs b after =
      rw (
        place_more o a xs,
        kind_more o a xs,
        length_more (place_behind (state_behind o a) xs)
            (kind_behind (state_behind o a) xs) xs after,
      )
      (row_more o a xs
      (option_or (own_length b)
      (length_behind (state_behind o a) (place_behind (state_behind o a) xs)
      (kind_behind (state_behind o a) xs) xs after)))

  pub rows_more : (xs after : List BinaryAnnotation)
      → rows_behind o (a ∷ xs) after ≡ rows_behind (state_behind o a) xs after
  unfolding rows_behind
  rows_more xs [] = refl
  rows_more xs (b ∷ after) =
      rw (row_of_more (xs ++ b ∷ []) b after, rows_more (xs ++ b ∷ []) after) refl
