-- Entries one after the other, as a loop reads them.
use Rattle.std.proofs.Common.{◌≡◌, ◌≢◌, ℕ, suc, ◌-◌, ◌+◌, ◌≤◌, ◌<◌, List, [], ◌∷◌, ◌++◌, length, Result, Ok, Err, refl, sym, ap, ◌∙◌, append_assoc, arith}
use Rattle.std.proofs.lemmas.List.{append-nil}
use Rattle.pdb_container.specs.Fault.{Fault, ◌>>=◌}
use Rattle.pdb_container.specs.Fields.{entries_within}

-- what was read before, and what is still read
abbrev pub entries_front : {A : Type 0} → List A → Result (List A) Fault → Result (List A) Fault
entries_front front read = read >>= λ others. Ok (front ++ others)

regroup : {A : Type 0} (front : List A) (x : A) (read : Result (List A) Fault) → entries_front front (read >>= λ others. Ok (x ∷ others)) ≡ entries_front (front ++ x ∷ []) read
regroup {A} front x (Ok others) = ap (λ (xs : List A). Ok xs) (sym (append_assoc front (x ∷ []) others))
regroup front x (Err e) = refl

-- nothing before all entries is all entries
pub entries_start : {A : Type 0} (one : List ℕ → Result (A × List ℕ) Fault) (count : ℕ) (bytes : List ℕ) → entries_front [] (entries_within one (count - 0) bytes) ≡ entries_within one count bytes
entries_start {A} one count bytes =
    let k : count - 0 ≡ count = omega arith in
    rw k (elim (entries_within one count bytes) as (λ (r : Result (List A) Fault). entries_front [] r ≡ r) [ Ok xs ↦ refl | Err e ↦ refl ])

-- one more entry, where a byte is left
step : {A : Type 0} (one : List ℕ → Result (A × List ℕ) Fault) (n : ℕ) (bytes : List ℕ) → length bytes ≢ 0
    → entries_within one (suc n) bytes ≡ (one bytes >>= λ first. entries_within one n first.1 >>= λ others. Ok (first.0 ∷ others))
unfolding entries_within
step one n [] some = absurd (some refl)
step one n (b ∷ bytes) some = refl

-- one entry more read before, and one step less after it
pub entries_more : {A : Type 0} (one : List ℕ → Result (A × List ℕ) Fault) (front : List A) (count i : ℕ) (bytes rest : List ℕ) (x : A) (total : Result (List A) Fault) → i < count → length bytes ≢ 0
    → one bytes ≡ Ok (x, rest) → entries_front front (entries_within one (count - i) bytes) ≡ total
    → entries_front (front ++ x ∷ []) (entries_within one (count - (i + 1)) rest) ≡ total
entries_more one front count i bytes rest x total lt some read so_far =
    let k : count - i ≡ suc (count - (i + 1)) = omega arith in
    let now : entries_front front (entries_within one (count - i) bytes) ≡ entries_front (front ++ x ∷ []) (entries_within one (count - (i + 1)) rest) =
    rw (k, step one (count - (i + 1)) bytes some, read) (regroup front x (entries_within one (count - (i + 1)) rest)) in
    sym now ∙ so_far

-- an entry that is refused refuses all
pub entries_fail : {A : Type 0} (one : List ℕ → Result (A × List ℕ) Fault) (front : List A) (count i : ℕ) (bytes : List ℕ) (e : Fault) (total : Result (List A) Fault) → i < count → length bytes ≢ 0
    → one bytes ≡ Err e → entries_front front (entries_within one (count - i) bytes) ≡ total → total ≡ Err e
entries_fail one front count i bytes e total lt some read so_far =
    let k : count - i ≡ suc (count - (i + 1)) = omega arith in
    let now : entries_front front (entries_within one (count - i) bytes) ≡ Err e = rw (k, step one (count - (i + 1)) bytes some, read) refl in
    sym so_far ∙ now

nothing_left : {A : Type 0} (one : List ℕ → Result (A × List ℕ) Fault) (n : ℕ) (bytes : List ℕ) → length bytes ≡ 0 → entries_within one n bytes ≡ Ok []
unfolding entries_within
nothing_left one n [] none = refl
nothing_left one n (b ∷ bytes) none = absurd (omega arith)

no_step_left : {A : Type 0} (one : List ℕ → Result (A × List ℕ) Fault) (bytes : List ℕ) → entries_within one 0 bytes ≡ Ok []
unfolding entries_within
no_step_left one [] = refl
no_step_left one (b ∷ bytes) = refl

-- no byte left: those read before are all entries
pub entries_end : {A : Type 0} (one : List ℕ → Result (A × List ℕ) Fault) (front : List A) (n : ℕ) (bytes : List ℕ) (total : Result (List A) Fault) → length bytes ≡ 0
    → entries_front front (entries_within one n bytes) ≡ total → total ≡ Ok front
entries_end {A} one front n bytes total none so_far =
    let now : entries_front front (entries_within one n bytes) ≡ Ok front = rw (nothing_left one n bytes none) (ap (λ (xs : List A). Ok xs) (append-nil front)) in
    sym so_far ∙ now

-- no step left: those read before are all entries
pub entries_done : {A : Type 0} (one : List ℕ → Result (A × List ℕ) Fault) (front : List A) (count i : ℕ) (bytes : List ℕ) (total : Result (List A) Fault) → count ≤ i
    → entries_front front (entries_within one (count - i) bytes) ≡ total → total ≡ Ok front
entries_done {A} one front count i bytes total past so_far =
    let k : count - i ≡ 0 = omega arith in
    let now : entries_front front (entries_within one (count - i) bytes) ≡ Ok front = rw (k, no_step_left one bytes) (ap (λ (xs : List A). Ok xs) (append-nil front)) in
    sym so_far ∙ now
