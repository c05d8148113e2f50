-- That many values one after another, as a loop reads them.
use Rattle.std.proofs.Common.{◌≡◌, ℕ, suc, ◌-◌, ◌+◌, ◌≤◌, ◌<◌, List, [], ◌∷◌, ◌++◌, Result, Ok, Err}
use Rattle.std.proofs.Common.{refl, sym, ap, ◌∙◌, append_assoc, arith}
use Rattle.std.proofs.lemmas.List.{append-nil}
use Rattle.pdb_container.specs.Fault.{Fault, ◌>>=◌}
use Rattle.pdb_container.specs.Fields.{Reader}
use Rattle.pdb_container.specs.RecordFields.{many_at}

-- what was read before, and what is still read
abbrev pub many_front : {A : Type 0} → List A → Result (List A × List ℕ) Fault
    → Result (List A × List ℕ) Fault
many_front front read = read >>= λ x. Ok (front ++ x.0, x.1)

-- a value that is read first may stand before the others
pub regroup : {A : Type 0} (front : List A) (x : A) (read : Result (List A × List ℕ) Fault)
    → many_front front (read >>= λ others. Ok (x ∷ others.0, others.1))
    ≡ many_front (front ++ x ∷ []) read
regroup {A} front x (Ok others) = ap (λ (xs : List A). Ok (xs, others.1))
    (sym (append_assoc front (x ∷ []) others.0))
regroup front x (Err e) = refl

-- no values before all that are asked for
pub many_start : {A : Type 0} (one : Reader A) (count : ℕ) (bytes : List ℕ)
    → many_front [] (many_at one (count - 0) bytes) ≡ many_at one count bytes
many_start {A} one count bytes =
    let k : count - 0 ≡ count = omega arith in
    rw k (elim (many_at one count bytes)
    as (λ (r : Result (List A × List ℕ) Fault). many_front [] r ≡ r) [
      | Ok xs ↦ refl
      | Err e ↦ refl
    ])

-- one more value read, and one fewer to come
pub many_more : {A : Type 0} (one : Reader A) (front : List A) (count i : ℕ) (bytes rest : List ℕ)
    (x : A) (total : Result (List A × List ℕ) Fault) → i < count → one bytes ≡ Ok (x, rest)
    → many_front front (many_at one (count - i) bytes) ≡ total
    → many_front (front ++ x ∷ []) (many_at one (count - (i + 1)) rest) ≡ total
unfolding many_at
many_more one front count i bytes rest x total lt read so_far =
    let k : count - i ≡ suc (count - (i + 1)) = omega arith in
    let now : many_front front (many_at one (count - i) bytes)
    ≡ many_front (front ++ x ∷ []) (many_at one (count - (i + 1)) rest) =
    rw (k, read) (regroup front x (many_at one (count - (i + 1)) rest)) in
    sym now ∙ so_far

-- a value that is refused refuses all
pub many_fail : {A : Type 0} (one : Reader A) (front : List A) (count i : ℕ) (bytes : List ℕ)
    (e : Fault) (total : Result (List A × List ℕ) Fault) → i < count → one bytes ≡ Err e
    → many_front front (many_at one (count - i) bytes) ≡ total → total ≡ Err e
unfolding many_at
many_fail one front count i bytes e total lt read so_far =
    let k : count - i ≡ suc (count - (i + 1)) = omega arith in
    let now : many_front front (many_at one (count - i) bytes) ≡ Err e = rw (k, read) refl in
    sym so_far ∙ now

-- as many values as were asked for
pub many_done : {A : Type 0} (one : Reader A) (front : List A) (count i : ℕ) (bytes : List ℕ)
    (total : Result (List A × List ℕ) Fault) → count ≤ i
    → many_front front (many_at one (count - i) bytes) ≡ total → total ≡ Ok (front, bytes)
unfolding many_at
many_done {A} one front count i bytes total past so_far =
    let k : count - i ≡ 0 = omega arith in
    let now : many_front front (many_at one (count - i) bytes) ≡ Ok (front, bytes) =
    rw k (ap (λ (xs : List A). Ok (xs, bytes)) (append-nil front)) in
    sym so_far ∙ now
