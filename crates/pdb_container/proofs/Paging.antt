-- The places of pages, one after the other, by the place in the stream.
use Rattle.std.proofs.Common.{◌≡◌, ℕ, ◌+◌, ◌*◌, ◌/◌, ◌%◌, ◌<◌, ◌≤◌, ◌-◌, List, [], ◌∷◌, ◌++◌, length, get_or, take, map, ltb, Ok, refl, sym, ◌∙◌, inl, inr, arith, add-one}
use Rattle.std.specs.Int.{div_ceil}
use Rattle.std.proofs.lemmas.Grind.{common_steps}
use Rattle.std.specs.List.{flat_map, list_all, range_with_len}
use Rattle.std.proofs.lemmas.Bool.{cases_lt, cases_Bool}
use Rattle.std.proofs.lemmas.List.{length-append, length-map, length-take, get_or_append_left, get_or-append_right, get_or-take, take_more, append-nil, length-take-le, take_all}
use Rattle.std.proofs.lemmas.List.Concat.{flat_map-append}
use Rattle.std.proofs.lemmas.List.FromFn.{length-range_with_len, get_or-range_with_len, fill_by_all}
use Rattle.std.proofs.Math.Nat.{add-div_right, add-mod_right, div-eq_of_lt, mod-eq_of_lt}
use Rattle.pdb_container.specs.Pages.{page}
use Rattle.pdb_container.specs.Places.{bytes_at, page_places}

far_at : (size p : ℕ) (pages : List ℕ) (k : ℕ) → 0 < size
    → get_or (flat_map (page size) pages) k 0 ≡ get_or pages (k / size) 0 * size + k % size
    → get_or (flat_map (page size) (p ∷ pages)) (k + size) 0 ≡ get_or (p ∷ pages) ((k + size) / size) 0 * size + (k + size) % size
far_at size p pages k pos rest =
    let past : (k + size) - size ≡ k = omega arith in
    rw (get_or-append_right (page size p) (flat_map (page size) pages) size (k + size) 0 (length-range_with_len (p * size) size) (omega arith), past, add-div_right k pos, add-mod_right k size, add-one (k / size)) rest

flat_at : (size : ℕ) (pages : List ℕ) (k : ℕ) → 0 < size → k < length pages * size → get_or (flat_map (page size) pages) k 0 ≡ get_or pages (k / size) 0 * size + k % size
flat_at size [] k pos lt = absurd (omega arith)
flat_at size (p ∷ pages) k pos lt =
    elim (cases_lt k size) [
      | inl h ↦
          rw (get_or_append_left (page size p) (flat_map (page size) pages) 0 k (omega (arith, length-range_with_len (p * size) size)), get_or-range_with_len (p * size) size k 0 h, div-eq_of_lt h, mod-eq_of_lt h) refl
      | inr h ↦
          let e : k ≡ (k - size) + size = omega arith in
          rw e (far_at size p pages (k - size) pos (flat_at size pages (k - size) pos (omega arith)))
    ]

flat_len : (size : ℕ) (pages : List ℕ) → length (flat_map (page size) pages) ≡ length pages * size
flat_len size [] = omega arith
flat_len size (p ∷ pages) = omega (arith, length-append (page size p) (flat_map (page size) pages), length-range_with_len (p * size) size, flat_len size pages)

-- cutting the pages' places is the one formula
pub page_places_is : (size : ℕ) (pages : List ℕ) (count : ℕ) → 0 < size → count ≤ length pages * size → take count (flat_map (page size) pages) ≡ page_places size pages count
unfolding page_places
page_places_is size pages count pos le =
    fill_by_all (λ i. get_or pages (i / size) 0 * size + i % size) (take count (flat_map (page size) pages)) count 0
    (omega (arith, length-take count (flat_map (page size) pages), flat_len size pages))
    (λ k lt. get_or-take count (flat_map (page size) pages) k 0 lt ∙ flat_at size pages k pos (omega arith))

-- one page's places more
pub flat_more : (size : ℕ) (pages : List ℕ) (i d : ℕ) → i < length pages → flat_map (page size) (take (i + 1) pages) ≡ flat_map (page size) (take i pages) ++ page size (get_or pages i d)
flat_more size pages i d lt =
    rw (take_more pages i d lt, flat_map-append (page size) (take i pages) (get_or pages i d ∷ []), append-nil (page size (get_or pages i d))) refl

-- so many pages have as many places
pub flat_front_len : (size : ℕ) (pages : List ℕ) (i : ℕ) → i ≤ length pages → length (flat_map (page size) (take i pages)) ≡ i * size
flat_front_len size pages i le = rw (flat_len size (take i pages), length-take-le i pages le) refl

-- the first places of pages, laid end to end, are those of the definition
pub page_places_at : (size : ℕ) (pages : List ℕ) (i count : ℕ) → length pages ≤ i → 0 < size → count ≤ length pages * size → take count (flat_map (page size) (take i pages)) ≡ page_places size pages count
page_places_at size pages i count whole pos le = rw (take_all i pages whole) (page_places_is size pages count pos le)

-- so many pages are enough for so many bytes
pub pages_enough : (size pages : ℕ) → 0 < pages → size ≤ div_ceil size pages * pages
pages_enough size pages pos = grind (arith, common_steps)

-- and no page more is
pub pages_full : (size pages : ℕ) → 0 < pages → div_ceil size pages * pages < size + pages
pages_full size pages pos = grind (arith, common_steps)

-- ---- how many bytes are read

at_len : (file places v : List ℕ) → bytes_at file places ≡ Ok v → length v ≡ length places
unfolding bytes_at
at_len file places v read = elim (cases_Bool (list_all (λ at. ltb at (length file)) places)) [
  | inl all ↦ let e = rw all at read in let v_is : map (λ at. get_or file at 0) places ≡ v = cc in rw (sym v_is) (length-map places (λ at. get_or file at 0))
  | inr some ↦ let e = rw some at read in absurd cc
]

-- so many places have so many bytes
pub paged_len : (file : List ℕ) (size : ℕ) (pages : List ℕ) (count : ℕ) (v : List ℕ) → bytes_at file (page_places size pages count) ≡ Ok v → length v ≡ count
unfolding page_places
paged_len file size pages count v read =
    at_len file (page_places size pages count) v read ∙ length-map (range_with_len 0 count) (λ i. get_or pages (i / size) 0 * size + i % size) ∙ length-range_with_len 0 count
