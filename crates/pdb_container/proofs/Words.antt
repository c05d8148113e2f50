-- Numbers that the bytes spell, and page numbers from the first on.
use Rattle.std.proofs.Common.{◌≡◌, ℕ, suc, ◌+◌, ◌*◌, ◌<◌, ◌≤◌, ◌-◌, ◌⊎◌, inl, inr, List, [], ◌∷◌, ◌++◌, length, get_or, drop, Result, Ok, Err, refl, sym, ap, ◌∙◌, arith}
use Rattle.std.specs.Prelude.{nat_le}
use Rattle.std.proofs.lemmas.Bool.{le-leb, lt-leb}
use Rattle.std.proofs.lemmas.List.{append-nil, drop_more, drop_all}
use Rattle.std.proofs.lemmas.List.FromFn.{map-range_with_len_more}
use Rattle.pdb_container.specs.Fault.{Fault}
use Rattle.pdb_container.specs.Fault.{UnexpectedEof, PageReferenceOutOfRange}
use Rattle.pdb_container.specs.Fault.{◌>>=◌}
use Rattle.pdb_container.specs.Container.{word_at, first_words, pages_in}
use Rattle.pdb_container.proofs.Bytes.{with_front, regroup, and_false}

-- one number more of four bytes
pub words_more : (bytes : List ℕ) (i : ℕ) → first_words bytes (i + 1) ≡ first_words bytes i ++ word_at bytes (4 * i) ∷ []
unfolding first_words
words_more bytes i = map-range_with_len_more (λ k. word_at bytes (4 * k)) 0 i i (omega arith)

-- no bytes spell no number
pub words_none : (bytes : List ℕ) → first_words bytes 0 ≡ []
unfolding first_words
words_none bytes = refl

-- ---- page numbers, one after the other

pages_step : (used n page : ℕ) (rest : List ℕ) → 1 ≤ page → page ≤ used → pages_in used (suc n) (page ∷ rest) ≡ (pages_in used n rest >>= λ others. Ok (page ∷ others))
pages_step used n page rest low high = rw (le-leb 1 page low, le-leb page used high) refl

pages_stop : (used n page : ℕ) (rest : List ℕ) → (page < 1) ⊎ (used < page) → pages_in used (suc n) (page ∷ rest) ≡ Err (PageReferenceOutOfRange page)
pages_stop used n page rest (inl h) = rw (lt-leb 1 page h) refl
pages_stop used n page rest (inr h) = rw (lt-leb page used h, and_false (nat_le 1 page)) refl

again : (front : List ℕ) (page : ℕ) (read : Result (List ℕ) Fault) → with_front front (read >>= λ others. Ok (page ∷ others)) ≡ with_front (front ++ page ∷ []) read
again front page read = regroup front (page ∷ []) read

-- one page number more that is in range
pub pages_more : (used count i d : ℕ) (front numbers : List ℕ) → i < count → i < length numbers → 1 ≤ get_or numbers i d → get_or numbers i d ≤ used
    → with_front front (pages_in used (count - i) (drop i numbers)) ≡ pages_in used count numbers
    → with_front (front ++ get_or numbers i d ∷ []) (pages_in used (count - (i + 1)) (drop (i + 1) numbers)) ≡ pages_in used count numbers
pages_more used count i d front numbers lt there low high so_far =
    let k : count - i ≡ suc (count - (i + 1)) = omega arith in
    let one : pages_in used (count - i) (drop i numbers) ≡ (pages_in used (count - (i + 1)) (drop (i + 1) numbers) >>= λ others. Ok (get_or numbers i d ∷ others)) =
    rw (k, drop_more numbers i d there) (pages_step used (count - (i + 1)) (get_or numbers i d) (drop (i + 1) numbers) low high) in
    sym (again front (get_or numbers i d) (pages_in used (count - (i + 1)) (drop (i + 1) numbers))) ∙ sym (ap (with_front front) one) ∙ so_far

-- a page number out of range refuses all
pub pages_wrong : (used count i d : ℕ) (front numbers : List ℕ) → i < count → i < length numbers → (get_or numbers i d < 1) ⊎ (used < get_or numbers i d)
    → with_front front (pages_in used (count - i) (drop i numbers)) ≡ pages_in used count numbers
    → pages_in used count numbers ≡ Err (PageReferenceOutOfRange (get_or numbers i d))
pages_wrong used count i d front numbers lt there wrong so_far =
    let k : count - i ≡ suc (count - (i + 1)) = omega arith in
    let one : pages_in used (count - i) (drop i numbers) ≡ Err (PageReferenceOutOfRange (get_or numbers i d)) =
    rw (k, drop_more numbers i d there) (pages_stop used (count - (i + 1)) (get_or numbers i d) (drop (i + 1) numbers) wrong) in
    sym so_far ∙ ap (with_front front) one

-- a page number that is missing refuses all
pub pages_missing : (used count i : ℕ) (front numbers : List ℕ) → i < count → length numbers ≤ i
    → with_front front (pages_in used (count - i) (drop i numbers)) ≡ pages_in used count numbers
    → pages_in used count numbers ≡ Err UnexpectedEof
pages_missing used count i front numbers lt past so_far =
    let k : count - i ≡ suc (count - (i + 1)) = omega arith in
    sym so_far ∙ rw (k, drop_all i numbers past) refl

-- as many page numbers as were asked for
pub pages_done : (used count i : ℕ) (front numbers : List ℕ) → count ≤ i
    → with_front front (pages_in used (count - i) (drop i numbers)) ≡ pages_in used count numbers
    → pages_in used count numbers ≡ Ok front
pages_done used count i front numbers le so_far =
    let k : count - i ≡ 0 = omega arith in
    sym so_far ∙ rw k (ap (λ (xs : List ℕ). Ok xs) (append-nil front))

-- no page number before all
pub pages_start : (used count : ℕ) (numbers : List ℕ) → with_front [] (pages_in used (count - 0) (drop 0 numbers)) ≡ pages_in used count numbers
pages_start used count numbers =
    let k : count - 0 ≡ count = omega arith in
    rw k (elim (pages_in used count numbers) as (λ r. with_front [] r ≡ r) [ Ok x ↦ refl | Err e ↦ refl ])
