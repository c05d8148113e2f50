-- The row that has an offset's column is the one that gives its line.
use Rattle.std.proofs.Common.{◌≡◌, ℕ, List, [], ◌∷◌, refl, sym, ap, ◌∙◌, arith}
use Rattle.std.specs.Prelude.{Option, None, Some, Result, Ok, Err, map, option_map}
use Rattle.std.proofs.lemmas.Bool.Decides.{nat_tests}
use Rattle.pdb_container.specs.Fault.{Fault, ◌>>=◌}
use Rattle.pdb_container.specs.Listing.{Listing, ending, whole}
use Rattle.pdb_addresses.specs.declared.internal_section_offset.PdbInternalSectionOffset.{PdbInternalSectionOffset}
use Rattle.pdb_subsections.specs.declared.line_info.LineInfo.{LineInfo}
use Rattle.pdb_lines.specs.LinesSubsections.{Program}
use Rattle.pdb_lines.specs.LineRows.{lines_for}
use Rattle.pdb_module_data.specs.declared.function_rows.LineRow.{LineRow}
use Rattle.pdb_module_data.specs.FunctionLine.{if_begun, later_row, row_at, row_of}
use Rattle.pdb_llvm_protocol.specs.Columns.{column_for, column_of, column_onto, found_among, found_with, IsOfLine}
use Rattle.pdb_llvm_protocol.proofs.ColumnSteps.{column_end}

-- the later one of three rows, however they are compared
later_of_three : (a b c : Option LineRow) → later_row (later_row a b) c ≡ later_row a (later_row b c)
later_of_three a b None = refl
later_of_three a None (Some c) = refl
later_of_three None (Some b) (Some c) = grind (arith, nat_tests)
later_of_three (Some a) (Some b) (Some c) = grind (arith, nat_tests)

-- one row more
one_more : (offset : ℕ) (found : Option LineInfo) (row : LineInfo)
    → option_map row_of (found_with offset found row) ≡ later_row (option_map row_of found) (if_begun (row_of row) offset)
one_more offset None row = grind (arith, nat_tests)
one_more offset (Some found) row = grind (arith, nat_tests)

row_found : (offset : ℕ) (found : Option LineInfo) (rows : List LineInfo)
    → option_map row_of (found_among offset found rows) ≡ later_row (option_map row_of found) (row_at (map row_of rows) offset)
row_found offset found [] = refl
row_found offset found (row ∷ rows) =
    row_found offset (found_with offset found row) rows
    ∙ ap (λ o. later_row o (row_at (map row_of rows) offset)) (one_more offset found row)
    ∙ later_of_three (option_map row_of found) (if_begun (row_of row) offset) (row_at (map row_of rows) offset)

later_of_none : (o : Option LineRow) → later_row None o ≡ o
later_of_none None = refl
later_of_none (Some row) = refl

same_ok : {A F : Type 0} {x y : A} → (let r : Result A F = Ok x in r) ≡ Ok y → x ≡ y
same_ok {A} {F} {x} {y} h = cc

err_is_not_ok : {A F : Type 0} {x : A} {e : F} → Err e ≡ Ok x → ⊥
err_is_not_ok {A} {F} {x} {e} h = cc

-- what is known of a column: its row, that the row gives the line, and that the column is its own
abbrev HasRow : ℕ → Result (List LineInfo) Fault → Option ℕ → Type 0
HasRow offset read column = (row : Option LineInfo)
    × (((read >>= λ rows. Ok (map row_of rows)) >>= λ rows. Ok (row_at rows offset)) ≡ Ok (option_map row_of row))
    × (column ≡ column_of row)

has_row : (offset : ℕ) (read : Result (List LineInfo) Fault) (column : Option ℕ)
    → (read >>= λ rows. Ok (column_of (found_among offset None rows))) ≡ Ok column → HasRow offset read column
has_row offset (Ok rows) column same =
    (found_among offset None rows, ap Ok (sym (row_found offset None rows ∙ later_of_none (row_at (map row_of rows) offset))), sym (same_ok same))
has_row offset (Err e) column same = absurd (err_is_not_ok same)

-- rows that ended well give the column of the row that gives the line
pub end_of_line : (p : Program) (start : PdbInternalSectionOffset) (offset : ℕ) (found : Option LineInfo) (left : Listing LineInfo) (column : Option ℕ)
    → left ≡ ending None → column_onto offset found left ≡ column_for p start offset → column ≡ column_of found → IsOfLine p start offset column
end_of_line p start offset found left column end so_far is =
    let h = has_row offset (whole (lines_for p start)) column (column_end offset found left (column_for p start offset) end so_far ∙ ap Ok (sym is)) in
    record { row = h.0; gives_line = h.1; has_column = h.2 }
