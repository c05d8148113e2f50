-- The sizes of an array, as a loop reads them.
use Rattle.std.proofs.Common.{◌≡◌, ◌≢◌, ℕ, suc, ◌-◌, ◌+◌, ◌≤◌, ◌<◌, false, eqb, List, [], ◌∷◌, ◌++◌}
use Rattle.std.proofs.Common.{Result, Ok, Err, refl, sym, ap, ◌∙◌, arith}
use Rattle.std.proofs.lemmas.Bool.{ne_eqb}
use Rattle.std.specs.Int.{w8}
use Rattle.pdb_container.specs.Fault.{Fault, UnexpectedEof, ◌>>=◌}
use Rattle.pdb_container.specs.Fields.{number_at}
use Rattle.pdb_records.specs.TypeRecords.{dimension_at, dimensions_within}
use Rattle.pdb_container.proofs.Many.{many_front, regroup}

-- no dimension before all of them
pub dimensions_start : (count : ℕ) (bytes : List ℕ)
    → many_front [] (dimensions_within (count - 0) bytes) ≡ dimensions_within count bytes
dimensions_start count bytes =
    let k : count - 0 ≡ count = omega arith in
    rw k (elim (dimensions_within count bytes)
    as (λ (r : Result (List ℕ × List ℕ) Fault). many_front [] r ≡ r) [
      | Ok xs ↦ refl
      | Err e ↦ refl
    ])

-- one dimension more, with no zero byte after it
pub dimensions_more : (front : List ℕ) (count i : ℕ) (bytes rest after : List ℕ) (x next : ℕ)
    (total : Result (List ℕ × List ℕ) Fault) → i < count
    → dimension_at bytes ≡ Ok (x, rest) → number_at w8 rest ≡ Ok (next, after) → next ≢ 0
    → many_front front (dimensions_within (count - i) bytes) ≡ total
    → many_front (front ++ x ∷ []) (dimensions_within (count - (i + 1)) rest) ≡ total
unfolding dimensions_within
dimensions_more front count i bytes rest after x next total lt read byte not so_far =
    let k : count - i ≡ suc (count - (i + 1)) = omega arith in
    let other : eqb next 0 ≡ false = ne_eqb next 0 not in
    let now : many_front front (dimensions_within (count - i) bytes)
    ≡ many_front (front ++ x ∷ []) (dimensions_within (count - (i + 1)) rest) =
    rw (k, read, byte, other) (regroup front x (dimensions_within (count - (i + 1)) rest)) in
    sym now ∙ so_far

same_ok : (y n : ℕ) (r : Result ℕ Fault) → r ≡ Ok y → r ≡ Ok n → y ≡ n
same_ok y n r a b = cc

-- the byte that was seen is the byte that is read
seen : (rest after : List ℕ) (y n : ℕ) → (number_at w8 rest >>= λ byte. Ok byte.0) ≡ Ok n → n ≡ 0
    → number_at w8 rest ≡ Ok (y, after) → number_at w8 rest ≡ Ok (0, after)
seen rest after y n peek none byte =
    let same : y ≡ n = same_ok y n (number_at w8 rest >>= λ b. Ok b.0)
    (ap (λ (r : Result (ℕ × List ℕ) Fault). r >>= λ b. Ok b.0) byte) peek in
    byte ∙ ap (λ (m : ℕ). Ok (m, after)) (same ∙ none)

-- one dimension more, with the zero byte after it
pub dimensions_end : (front : List ℕ) (count i : ℕ) (bytes rest after : List ℕ) (x y n : ℕ)
    (total : Result (List ℕ × List ℕ) Fault) → i < count
    → dimension_at bytes ≡ Ok (x, rest) → (number_at w8 rest >>= λ byte. Ok byte.0) ≡ Ok n → n ≡ 0
    → number_at w8 rest ≡ Ok (y, after)
    → many_front front (dimensions_within (count - i) bytes) ≡ total
    → total ≡ Ok (front ++ x ∷ [], after)
unfolding dimensions_within
dimensions_end front count i bytes rest after x y n total lt read peek none byte so_far =
    let k : count - i ≡ suc (count - (i + 1)) = omega arith in
    let now : many_front front (dimensions_within (count - i) bytes) ≡ Ok (front ++ x ∷ [], after) =
    rw (k, read, seen rest after y n peek none byte) refl in
    sym so_far ∙ now

-- a dimension that is refused refuses all
pub dimensions_fail : (front : List ℕ) (count i : ℕ) (bytes : List ℕ) (e : Fault)
    (total : Result (List ℕ × List ℕ) Fault) → i < count → dimension_at bytes ≡ Err e
    → many_front front (dimensions_within (count - i) bytes) ≡ total → total ≡ Err e
unfolding dimensions_within
dimensions_fail front count i bytes e total lt read so_far =
    let k : count - i ≡ suc (count - (i + 1)) = omega arith in
    let now : many_front front (dimensions_within (count - i) bytes) ≡ Err e = rw (k, read) refl in
    sym so_far ∙ now

-- a dimension with no byte after it refuses all
pub dimensions_unended : (front : List ℕ) (count i : ℕ) (bytes rest : List ℕ) (x : ℕ) (e : Fault)
    (total : Result (List ℕ × List ℕ) Fault) → i < count
    → dimension_at bytes ≡ Ok (x, rest) → number_at w8 rest ≡ Err e
    → many_front front (dimensions_within (count - i) bytes) ≡ total → total ≡ Err e
unfolding dimensions_within
dimensions_unended front count i bytes rest x e total lt read byte so_far =
    let k : count - i ≡ suc (count - (i + 1)) = omega arith in
    let now : many_front front (dimensions_within (count - i) bytes) ≡ Err e =
    rw (k, read, byte) refl in
    sym so_far ∙ now

-- dimensions without a zero byte are refused
pub dimensions_missing : (front : List ℕ) (count i : ℕ) (bytes : List ℕ)
    (total : Result (List ℕ × List ℕ) Fault) → count ≤ i
    → many_front front (dimensions_within (count - i) bytes) ≡ total → total ≡ Err UnexpectedEof
unfolding dimensions_within
dimensions_missing front count i bytes total past so_far =
    let k : count - i ≡ 0 = omega arith in
    let now : many_front front (dimensions_within (count - i) bytes) ≡ Err UnexpectedEof =
    rw k refl in
    sym so_far ∙ now
