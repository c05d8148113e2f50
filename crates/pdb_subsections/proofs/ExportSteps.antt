-- The first export of an index, as a loop looks for it.
use Rattle.std.proofs.Common.{◌≡◌, ◌≢◌, ℕ, ◌+◌, ◌<◌, ◌≤◌, List, ◌∷◌, length, get_or, drop, refl}
use Rattle.std.proofs.Common.{sym, ap, ◌∙◌}
use Rattle.std.specs.Prelude.{Option, None, Some}
use Rattle.std.proofs.lemmas.Bool.{eq-eqb, ne_eqb}
use Rattle.std.proofs.lemmas.List.{drop_more, drop_all}
use Rattle.pdb_subsections.specs.Exports.{export_in, exports_by_eight, first_export}

-- what is found from a place on
abbrev pub first_from : List (List ℕ) → ℕ → ℕ → Option ℕ
first_from pairs i local = first_export (exports_by_eight (drop i pairs)) local

here : (pairs : List (List ℕ)) (i local : ℕ) (d : List ℕ) → i < length pairs
    → first_from pairs i local ≡ first_export
    (export_in (get_or pairs i d) ∷ exports_by_eight (drop (i + 1) pairs)) local
here pairs i local d lt = ap (λ xs. first_export (exports_by_eight xs) local)
    (drop_more pairs i d lt)

-- an export of another index is passed over
pub first_more : (pairs : List (List ℕ)) (i local : ℕ) (d : List ℕ) (total : Option ℕ)
    → i < length pairs → (export_in (get_or pairs i d)).local ≢ local
    → first_from pairs i local ≡ total → first_from pairs (i + 1) local ≡ total
first_more pairs i local d total lt other so_far =
    let e = export_in (get_or pairs i d) in
    let passed : first_export (e ∷ exports_by_eight (drop (i + 1) pairs)) local
    ≡ first_from pairs (i + 1) local = rw (ne_eqb e.local local other) refl in
    sym (here pairs i local d lt ∙ passed) ∙ so_far

-- an export of the index is the first one
pub first_found : (pairs : List (List ℕ)) (i local : ℕ) (d : List ℕ) (total : Option ℕ) → i
    < length pairs → (export_in (get_or pairs i d)).local ≡ local → first_from pairs i local ≡ total
    → Some ((export_in (get_or pairs i d)).global) ≡ total
first_found pairs i local d total lt it so_far =
    let e = export_in (get_or pairs i d) in
    let found : first_export (e ∷ exports_by_eight (drop (i + 1) pairs)) local ≡ Some e.global =
    rw (eq-eqb e.local local it) refl in
    sym (here pairs i local d lt ∙ found) ∙ so_far

-- no export is left: there is none of the index
pub first_missing : (pairs : List (List ℕ)) (i local : ℕ) (total : Option ℕ) → length pairs ≤ i
    → first_from pairs i local ≡ total → None ≡ total
first_missing pairs i local total past so_far =
    sym (ap (λ xs. first_export (exports_by_eight xs) local) (drop_all i pairs past)) ∙ so_far
