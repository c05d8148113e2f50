-- The distance to the next of many cuts, one row after the other.
use Rattle.std.proofs.Common.{ℕ, inl, inr, List, [], ◌∷◌, ◌++◌, ◌≡◌, refl, ap, ◌∙◌, arith}
use Rattle.std.proofs.lemmas.Bool.{cases_lt}
use Rattle.pdb_addresses.specs.SectionRun.{nearer, up_to_next}
use Rattle.pdb_addresses.proofs.RunSteps.{past, passed}
use Rattle.pdb_module_data.specs.InlinePieces.{cuts_of, row_cuts}
use Rattle.pdb_module_data.specs.declared.call_rows.CallRow.{CallRow}

-- the order in which two bounds are taken is nothing to the nearest
swapped : (a b c n : ℕ) → nearer a b (nearer a c n) ≡ nearer a c (nearer a b n)
swapped a b c n = elim (cases_lt a b) [
  | inl l ↦ elim (cases_lt a c) [
    | inl m ↦
        let one = past a b (nearer a c n) l in
        let two = past a c n m in
        let three = past a c (nearer a b n) m in
        let four = past a b n l in omega arith
    | inr m ↦
        let one = past a b (nearer a c n) l in
        let two = passed a c n m in
        let three = passed a c (nearer a b n) m in
        let four = past a b n l in omega arith
  ]
  | inr l ↦ elim (cases_lt a c) [
    | inl m ↦
        let one = passed a b (nearer a c n) l in
        let two = past a c n m in
        let three = past a c (nearer a b n) m in
        let four = passed a b n l in omega arith
    | inr m ↦
        let one = passed a b (nearer a c n) l in
        let two = passed a c n m in
        let three = passed a c (nearer a b n) m in
        let four = passed a b n l in omega arith
  ]
]

-- a bound may be taken before the others
taken_first : (cs : List ℕ) (a b n : ℕ)
    → nearer a b (up_to_next cs a n) ≡ up_to_next cs a (nearer a b n)
taken_first [] a b n = refl
taken_first (c ∷ cs) a b n =
    swapped a b c (up_to_next cs a n) ∙ ap (nearer a c) (taken_first cs a b n)

-- bounds may be taken before those that follow
taken_ahead : (bs cs : List ℕ) (a n : ℕ)
    → up_to_next (bs ++ cs) a n ≡ up_to_next cs a (up_to_next bs a n)
taken_ahead [] cs a n = refl
taken_ahead (b ∷ bs) cs a n =
    ap (nearer a b) (taken_ahead bs cs a n) ∙ taken_first cs a b (up_to_next bs a n)

-- the cuts of a row may be taken before those of the rows that follow
pub next_row : (row : CallRow) (rows : List CallRow) (a n : ℕ)
    → up_to_next (cuts_of (row ∷ rows)) a n
    ≡ up_to_next (cuts_of rows) a (up_to_next (row_cuts row) a n)
next_row row rows a n = taken_ahead (row_cuts row) (cuts_of rows) a n
