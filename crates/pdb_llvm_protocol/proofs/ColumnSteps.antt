-- The steps of the loops that go over rows.
use Rattle.std.proofs.Common.{◌≡◌, ℕ, Option, None, Some, Result, Ok, Err, refl, sym, ap, ◌∙◌}
use Rattle.std.specs.Prelude.{Bool, true, false, ◌||◌, List, ◌∷◌}
use Rattle.std.specs.List.{list_any}
use Rattle.pdb_container.specs.Fault.{Fault, ◌>>=◌}
use Rattle.pdb_container.specs.Listing.{Listing, ending, before, whole_with}
use Rattle.pdb_subsections.specs.declared.line_info.LineInfo.{LineInfo}
use Rattle.pdb_llvm_protocol.specs.Columns.{column_of, column_onto, found_among, found_with, has_column}

more_with : (offset : ℕ) (found : Option LineInfo) (row : LineInfo) (others : List LineInfo) (fault : Option Fault)
    → (whole_with fault (row ∷ others) >>= λ rows. Ok (column_of (found_among offset found rows)))
    ≡ (whole_with fault others >>= λ rows. Ok (column_of (found_among offset (found_with offset found row) rows)))
more_with offset found row others None = refl
more_with offset found row others (Some e) = refl

-- a row more
pub column_more : (offset : ℕ) (found : Option LineInfo) (row : LineInfo) (left others : Listing LineInfo) (total : Result (Option ℕ) Fault)
    → left ≡ before row others → column_onto offset found left ≡ total → column_onto offset (found_with offset found row) others ≡ total
column_more offset found row left others total step so_far =
    sym (more_with offset found row others.items others.fault) ∙ sym (ap (column_onto offset found) step) ∙ so_far

-- rows that ended well
pub column_end : (offset : ℕ) (found : Option LineInfo) (left : Listing LineInfo) (total : Result (Option ℕ) Fault)
    → left ≡ ending None → column_onto offset found left ≡ total → total ≡ Ok (column_of found)
column_end offset found left total end so_far = sym so_far ∙ ap (column_onto offset found) end

-- rows that ended with a fault
pub column_fault : (offset : ℕ) (found : Option LineInfo) (left : Listing LineInfo) (total : Result (Option ℕ) Fault) (e : Fault)
    → left ≡ ending (Some e) → column_onto offset found left ≡ total → total ≡ Err e
column_fault offset found left total e end so_far = sym so_far ∙ ap (column_onto offset found) end

-- a row without a column
pub rows_more : (row : LineInfo) (left others : Listing LineInfo) (total : Bool)
    → left ≡ before row others → has_column row ≡ false → list_any has_column left.items ≡ total → list_any has_column others.items ≡ total
rows_more row left others total step without so_far =
    sym (ap (λ (l : Listing LineInfo). list_any has_column l.items) step ∙ ap (λ (b : Bool). b || list_any has_column others.items) without) ∙ so_far

-- a row with a column
pub rows_found : (row : LineInfo) (left others : Listing LineInfo) (total : Bool)
    → left ≡ before row others → has_column row ≡ true → list_any has_column left.items ≡ total → total ≡ true
rows_found row left others total step with_one so_far =
    sym so_far ∙ ap (λ (l : Listing LineInfo). list_any has_column l.items) step ∙ ap (λ (b : Bool). b || list_any has_column others.items) with_one

-- no row is left
pub rows_ended : (left : Listing LineInfo) (fault : Option Fault) (total : Bool)
    → left ≡ ending fault → list_any has_column left.items ≡ total → total ≡ false
rows_ended left fault total end so_far = sym so_far ∙ ap (λ (l : Listing LineInfo). list_any has_column l.items) end
