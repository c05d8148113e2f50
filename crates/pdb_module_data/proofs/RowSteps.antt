-- The steps of the loop that reads a function's rows.
use Rattle.std.proofs.Common.{◌≡◌, List, [], ◌∷◌, ◌++◌, map, Result, Ok, Err, refl, sym, ap, ◌∙◌, append_assoc, append-nil}
use Rattle.std.specs.Prelude.{Option, None, Some}
use Rattle.pdb_container.specs.Fault.{Fault, ◌>>=◌}
use Rattle.pdb_container.specs.Listing.{Listing, ending, before, whole, whole_with}
use Rattle.pdb_subsections.specs.declared.line_info.LineInfo.{LineInfo}
use Rattle.pdb_module_data.specs.declared.function_rows.LineRow.{LineRow}
use Rattle.pdb_module_data.specs.FunctionLine.{row_of}

-- what is stored so far, with what is stored of the rows that are still to come
abbrev pub rows_onto : List LineRow → Listing LineInfo → Result (List LineRow) Fault
rows_onto rows left = whole left >>= λ others. Ok (rows ++ map row_of others)

start_with : (all : List LineInfo) (fault : Option Fault) → (whole_with fault all >>= λ others. Ok ([] ++ map row_of others)) ≡ (whole_with fault all >>= λ others. Ok (map row_of others))
start_with all None = refl
start_with all (Some e) = refl

-- no row yet
pub rows_start : (left : Listing LineInfo) → rows_onto [] left ≡ (whole left >>= λ others. Ok (map row_of others))
rows_start left = start_with left.items left.fault

more_with : (rows : List LineRow) (x : LineInfo) (others : List LineInfo) (fault : Option Fault)
    → (whole_with fault (x ∷ others) >>= λ all. Ok (rows ++ map row_of all)) ≡ (whole_with fault others >>= λ all. Ok ((rows ++ row_of x ∷ []) ++ map row_of all))
more_with rows x others None = ap (λ (all : List LineRow). Ok all) (sym (append_assoc rows (row_of x ∷ []) (map row_of others)))
more_with rows x others (Some e) = refl

-- a row more
pub rows_more : (rows new : List LineRow) (x : LineInfo) (left others : Listing LineInfo) (total : Result (List LineRow) Fault)
    → left ≡ before x others → new ≡ rows ++ row_of x ∷ [] → rows_onto rows left ≡ total → rows_onto new others ≡ total
rows_more rows new x left others total step is so_far =
    ap (λ (all : List LineRow). rows_onto all others) is ∙ sym (more_with rows x others.items others.fault) ∙ sym (ap (rows_onto rows) step) ∙ so_far

-- rows that ended well
pub rows_end : (rows : List LineRow) (left : Listing LineInfo) (total : Result (List LineRow) Fault) → left ≡ ending None → rows_onto rows left ≡ total → total ≡ Ok rows
rows_end rows left total end so_far = sym so_far ∙ ap (rows_onto rows) end ∙ ap (λ (all : List LineRow). Ok all) (append-nil rows)

-- rows that ended with a fault
pub rows_fault : (rows : List LineRow) (left : Listing LineInfo) (total : Result (List LineRow) Fault) (e : Fault) → left ≡ ending (Some e) → rows_onto rows left ≡ total → total ≡ Err e
rows_fault rows left total e end so_far = sym so_far ∙ ap (rows_onto rows) end
