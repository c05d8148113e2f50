-- What is stored of rows answers as the rows do.
use Rattle.std.proofs.Common.{◌≡◌, ℕ, zero, suc, ◌+◌, ◌-◌, ◌≤◌, Bool, true, false, List, [], ◌∷◌, ◌++◌, length, get_or, drop, Option, None, Some, refl, sym, ap, ◌∙◌, append_assoc, add-one, arith}
use Rattle.pdb_symbol_records.specs.Forms.{InlineSiteForm}
use Rattle.pdb_module_data.specs.Forest.{Site}
use Rattle.std.specs.Prelude.{◌||◌, ◌<◌, if◌then◌else◌, unwrap_or, option_map, slice_get}
use Rattle.std.specs.List.{find, list_any}
use Rattle.std.proofs.lemmas.Bool.Decides.{nat_tests}
use Rattle.std.proofs.lemmas.List.{length-append}
use Rattle.std.proofs.Math.Seq.{drop-append_seam, take-append_seam}
use Rattle.pdb_container.specs.declared.index.IdIndex.{IdIndex}
use Rattle.pdb_addresses.specs.declared.internal_section_offset.PdbInternalSectionOffset.{PdbInternalSectionOffset}
use Rattle.pdb_subsections.specs.declared.line_info.LineInfo.{LineInfo}
use Rattle.pdb_lines.specs.InlinedRows.{covers}
use Rattle.pdb_module_data.specs.declared.call_rows.CallRow.{CallRow}
use Rattle.pdb_module_data.specs.InlinedCalls.{has_length, call_by}
use Rattle.pdb_module_data.specs.InlinePieces.{kept_rows, rows_of_sites, starts_of_sites, rows_between, covers_kept, call_by_kept, AreCut}

-- what is stored of a row that covers anything
abbrev kept_one : LineInfo → CallRow
kept_one row = record { offset = row.offset; length = unwrap_or row.length 0; file_index = row.file_index; line_start = row.line_start }

-- a row without length covers nothing
covers_nothing : (row : LineInfo) (place : PdbInternalSectionOffset) → has_length row ≡ false → covers row place ≡ false
covers_nothing row place e = grind (arith, nat_tests)

any_of : (row : LineInfo) (rows : List LineInfo) (place : PdbInternalSectionOffset) (long : Bool) → has_length row ≡ long → list_any (covers_kept place) (kept_rows rows) ≡ list_any (λ r. covers r place) rows
    → list_any (covers_kept place) ((if long then kept_one row ∷ [] else []) ++ kept_rows rows) ≡ (covers row place || list_any (λ r. covers r place) rows)
any_of row rows place true e h = ap (λ b. covers row place || b) h
any_of row rows place false e h = h ∙ sym (ap (λ b. b || list_any (λ r. covers r place) rows) (covers_nothing row place e))

-- one of the rows covers a place where one of what is stored does
pub any_kept : (rows : List LineInfo) (place : PdbInternalSectionOffset) → list_any (covers_kept place) (kept_rows rows) ≡ list_any (λ row. covers row place) rows
any_kept [] place = refl
any_kept (row ∷ rows) place = any_of row rows place (has_length row) refl (any_kept rows place)

find_of : (row : LineInfo) (rows : List LineInfo) (place : PdbInternalSectionOffset) (long over : Bool) → has_length row ≡ long → covers row place ≡ over
    → find (covers_kept place) (kept_rows rows) ≡ option_map kept_one (find (λ r. covers r place) rows)
    → find (covers_kept place) ((if long then kept_one row ∷ [] else []) ++ kept_rows rows) ≡ option_map kept_one (if over then Some row else find (λ r. covers r place) rows)
find_of row rows place true true e f h = rw f refl
find_of row rows place true false e f h = rw f h
find_of row rows place false true e f h = let g = covers_nothing row place e in cc
find_of row rows place false false e f h = h

-- the first row over a place
find_kept : (rows : List LineInfo) (place : PdbInternalSectionOffset) → find (covers_kept place) (kept_rows rows) ≡ option_map kept_one (find (λ row. covers row place) rows)
find_kept [] place = refl
find_kept (row ∷ rows) place = find_of row rows place (has_length row) (covers row place) refl refl (find_kept rows place)

-- the file of the first row that covers anything
abbrev first_file : IdIndex → List CallRow → Option LineInfo → Type 0
first_file id kept long = call_by_kept id None kept ≡ call_by id None long

file_of : (id : IdIndex) (row : LineInfo) (rows : List LineInfo) (long : Bool) → has_length row ≡ long → first_file id (kept_rows rows) (find has_length rows)
    → first_file id ((if long then kept_one row ∷ [] else []) ++ kept_rows rows) (if long then Some row else find has_length rows)
file_of id row rows true e h = refl
file_of id row rows false e h = h

file_kept : (id : IdIndex) (rows : List LineInfo) → first_file id (kept_rows rows) (find has_length rows)
file_kept id [] = refl
file_kept id (row ∷ rows) = file_of id row rows (has_length row) refl (file_kept id rows)

call_found : (id : IdIndex) (rows : List LineInfo) (over : Option LineInfo) → call_by_kept id (option_map kept_one over) (kept_rows rows) ≡ call_by id over (find has_length rows)
call_found id rows (Some row) = refl
call_found id rows None = file_kept id rows

-- a call by what is stored of its rows is the call by these
pub call_kept : (id : IdIndex) (rows : List LineInfo) (kept : List CallRow) (place : PdbInternalSectionOffset) → kept ≡ kept_rows rows
    → call_by_kept id (find (covers_kept place) kept) kept ≡ call_by id (find (λ row. covers row place) rows) (find has_length rows)
call_kept id rows kept place e =
    ap (λ k. call_by_kept id (find (covers_kept place) k) k) e ∙ ap (λ o. call_by_kept id o (kept_rows rows)) (find_kept rows place) ∙ call_found id rows (find (λ row. covers row place) rows)

-- the first start
first_start : (lines : InlineSiteForm → List LineInfo) (n : ℕ) (sites : List Site) → get_or (starts_of_sites lines n sites) 0 0 ≡ n
first_start lines n [] = refl
first_start lines n (site ∷ sites) = refl

-- rows after others, up to their end
cut_out : (front kept rest : List CallRow) (n m : ℕ) → length front ≡ n → m ≡ n + length kept → rows_between (front ++ (kept ++ rest)) n m ≡ kept
cut_out front kept rest n m e f =
    let d : drop n (front ++ (kept ++ rest)) ≡ kept ++ rest = ap (λ i. drop i (front ++ (kept ++ rest))) (sym e) ∙ drop-append_seam front (kept ++ rest) in
    let l : m - n ≡ length kept = omega arith in
    rw (d, l) (take-append_seam kept rest)

kept_behind : (lines : InlineSiteForm → List LineInfo) (front : List CallRow) (n : ℕ) (sites : List Site) (k : ℕ) (site : Site) → length front ≡ n → slice_get sites k ≡ Some site
    → rows_between (front ++ rows_of_sites lines sites) (get_or (starts_of_sites lines n sites) k 0) (get_or (starts_of_sites lines n sites) (suc k) 0) ≡ kept_rows (lines site.call)
kept_behind lines front n [] k site e g = cc
kept_behind lines front n (s ∷ sites) zero site e g =
    let same : s ≡ site = cc in
    cut_out front (kept_rows (lines s.call)) (rows_of_sites lines sites) n _ e (first_start lines (n + length (kept_rows (lines s.call))) sites) ∙ ap (λ t. kept_rows (lines t.call)) same
kept_behind lines front n (s ∷ sites) (suc k) site e g =
    let kept = kept_rows (lines s.call) in
    let starts = starts_of_sites lines (n + length kept) sites in
    let far : length (front ++ kept) ≡ n + length kept = omega (arith, length-append front kept) in
    ap (λ all. rows_between all (get_or starts k 0) (get_or starts (suc k) 0)) (sym (append_assoc front kept (rows_of_sites lines sites))) ∙ kept_behind lines (front ++ kept) (n + length kept) sites k site far g

-- what is stored of the rows of the site of a number
pub kept_at : (rows : List CallRow) (starts : List ℕ) (sites : List Site) (lines : InlineSiteForm → List LineInfo) (k : ℕ) (site : Site) → rows ≡ rows_of_sites lines sites → starts ≡ starts_of_sites lines 0 sites
    → slice_get sites k ≡ Some site → rows_between rows (get_or starts k 0) (get_or starts (k + 1) 0) ≡ kept_rows (lines site.call)
kept_at rows starts sites lines k site e f g =
    rw add-one (ap (λ all. rows_between all (get_or starts k 0) (get_or starts (suc k) 0)) e ∙ ap (λ at. rows_between (rows_of_sites lines sites) (get_or at k 0) (get_or at (suc k) 0)) f ∙ kept_behind lines [] 0 sites k site refl g)

many_starts : (lines : InlineSiteForm → List LineInfo) (n : ℕ) (sites : List Site) → length (starts_of_sites lines n sites) ≡ length sites + 1
many_starts lines n [] = refl
many_starts lines n (s ∷ sites) = omega (arith, many_starts lines (n + length (kept_rows (lines s.call))) sites)

starts_ascend : (lines : InlineSiteForm → List LineInfo) (n : ℕ) (sites : List Site) (k : ℕ) → k < length sites → get_or (starts_of_sites lines n sites) k 0 ≤ get_or (starts_of_sites lines n sites) (suc k) 0
starts_ascend lines n [] k h = absurd (omega arith)
starts_ascend lines n (s ∷ sites) zero h = omega (arith, first_start lines (n + length (kept_rows (lines s.call))) sites)
starts_ascend lines n (s ∷ sites) (suc k) h = starts_ascend lines (n + length (kept_rows (lines s.call))) sites k (omega arith)

starts_within : (lines : InlineSiteForm → List LineInfo) (n : ℕ) (sites : List Site) (k : ℕ) → k < length sites → get_or (starts_of_sites lines n sites) (suc k) 0 ≤ n + length (rows_of_sites lines sites)
starts_within lines n [] k h = absurd (omega arith)
starts_within lines n (s ∷ sites) zero h =
    omega (arith, first_start lines (n + length (kept_rows (lines s.call))) sites, length-append (kept_rows (lines s.call)) (rows_of_sites lines sites))
starts_within lines n (s ∷ sites) (suc k) h =
    let rest = starts_within lines (n + length (kept_rows (lines s.call))) sites k (omega arith) in
    omega (arith, rest, length-append (kept_rows (lines s.call)) (rows_of_sites lines sites))

-- the starts of sites' rows cut these
pub are_cut : (rows : List CallRow) (starts : List ℕ) (sites : List Site) (lines : InlineSiteForm → List LineInfo) → rows ≡ rows_of_sites lines sites → starts ≡ starts_of_sites lines 0 sites → AreCut (length sites) starts (length rows)
are_cut rows starts sites lines e f = rw (e, f) record {
  many = many_starts lines 0 sites;
  ascend = λ k h. rw add-one (starts_ascend lines 0 sites k h);
  bound = λ k h. rw add-one (omega (arith, starts_within lines 0 sites k h));
}
