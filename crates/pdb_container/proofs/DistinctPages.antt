-- Pages of which each is read once.
use Rattle.std.proofs.Common.{◌≡◌, ◌≢◌, ℕ, Some, None, false, ◌+◌, ◌*◌, ◌/◌, ◌%◌, ◌<◌, ◌≤◌, ◌-◌, ◌⊎◌, inl, inr, List, [], ◌∷◌, ◌++◌, length, get_or, refl, sym, ap, ◌∙◌, arith}
use Rattle.std.proofs.lemmas.Bool.{cases_lt}
use Rattle.std.proofs.lemmas.List.{length-append, get_or_append_left, get_or_at}
use Rattle.std.proofs.lemmas.Nat.{mul-le, row_fits, div-mul-add, mod-mul-add, div_below, mod_below, div-add-mod'}
use Rattle.std.proofs.lemmas.Bool.Decides.{eqb_tells, nat_tests}
use Rattle.std.specs.BTreeMap.{BTreeMap, Updates, get, is_at}
use Rattle.std.specs.Ordering.{nat_cmp}
use Rattle.pdb_container.specs.PagedNumbers.{AreDistinct, AreKnown, StandIn, byte_place}

one_more : (xs : List ℕ) (x : ℕ) → length (xs ++ x ∷ []) ≡ length xs + 1
one_more xs x = length-append xs (x ∷ [])

left : (xs : List ℕ) (x i : ℕ) → i < length xs → get_or (xs ++ x ∷ []) i 0 ≡ get_or xs i 0
left xs x i lt = get_or_append_left xs (x ∷ []) 0 i lt

last : (xs : List ℕ) (x i : ℕ) → length xs ≡ i → get_or (xs ++ x ∷ []) i 0 ≡ x
last xs x i e = get_or_at xs x [] 0 i e

-- one page more of a list, where the pages stay and at most that page is added to them
more_by : (list pages more places : List ℕ) (page place : ℕ) → AreDistinct list pages places
    → length pages ≤ length more → length more ≤ length pages + 1
    → ((k : ℕ) → k < length pages → get_or more k 0 ≡ get_or pages k 0)
    → ((k : ℕ) → k < length more → length pages ≤ k → k ≡ place)
    → place < length more → get_or more place 0 ≡ page
    → AreDistinct (list ++ page ∷ []) more (places ++ place ∷ [])
more_by list pages more places page place d low high same added there is =
    record {
      many = omega (arith, one_more list page, one_more places place, d.many);
      few = omega (arith, one_more list page, d.few);
      place = λ i lt. elim (cases_lt i (length list)) [
        | inl h ↦
            let at : get_or (places ++ place ∷ []) i 0 ≡ get_or places i 0 = left places place i (omega (arith, d.many)) in
            let before = d.place i h in
            (rw at (omega (arith, before.0)), rw at (same (get_or places i 0) before.0 ∙ before.1 ∙ sym (left list page i h)))
        | inr h ↦
            let here : i ≡ length list = omega (arith, one_more list page) in
            let at : get_or (places ++ place ∷ []) i 0 ≡ place = last places place i (omega (arith, d.many)) in
            (rw at there, rw at (is ∙ sym (last list page i (sym here))))
      ];
      page = λ k lt. elim (cases_lt k (length pages)) [
        | inl h ↦
            let found = d.page k h in
            (found.0, omega (arith, found.1, one_more list page), left places place found.0 (omega (arith, found.1, d.many)) ∙ found.2)
        | inr h ↦ (length list, omega (arith, one_more list page), last places place (length list) d.many ∙ sym (added k lt h))
      ];
    }

-- one page more of a list: it stands among the pages already, or is added after them
pub distinct_more : (list pages more places : List ℕ) (page place : ℕ) → AreDistinct list pages places
    → (more ≡ pages) ⊎ ((more ≡ pages ++ page ∷ []) × (place ≡ length pages))
    → place < length more → get_or more place 0 ≡ page
    → AreDistinct (list ++ page ∷ []) more (places ++ place ∷ [])
distinct_more list pages more places page place d (inl e) there is =
    more_by list pages more places page place d (omega (arith, ap length e)) (omega (arith, ap length e)) (λ k lt. ap (λ (xs : List ℕ). get_or xs k 0) e)
    (λ k lt le. absurd (omega (arith, ap length e))) there is
distinct_more list pages more places page place d (inr (e, at)) there is =
    let len : length more ≡ length pages + 1 = ap length e ∙ one_more pages page in
    more_by list pages more places page place d (omega arith) (omega arith) (λ k lt. ap (λ (xs : List ℕ). get_or xs k 0) e ∙ left pages page k lt)
    (λ k lt le. omega arith) there is

-- ---- what is known of pages

apart_is_not_at : (k q : ℕ) → q ≢ k → is_at (nat_cmp k) q ≡ false
apart_is_not_at k q apart = grind (arith, nat_tests)

known_now : (pages : List ℕ) (known more : BTreeMap ℕ ℕ) (page added : ℕ) → Updates nat_cmp known more page (Some added) → added ≡ length pages → AreKnown pages known
    → (q place : ℕ) → get nat_cmp more q ≡ Some place → (place < length (pages ++ page ∷ [])) × (get_or (pages ++ page ∷ []) place 0 ≡ q)
known_now pages known more page added updates end are q place at = elim (eqb_tells q page) [
  | inl same ↦
      let now : get nat_cmp more q ≡ Some added = ap (get nat_cmp more) (same.1) ∙ updates.1 in
      let here : place ≡ length pages = cc in
      (omega (arith, one_more pages page), last pages page place (sym here) ∙ sym (same.1))
  | inr apart ↦
      let before = are.each q place (sym (updates.2 q (apart_is_not_at page q (apart.1))) ∙ at) in
      (omega (arith, one_more pages page, before.0), left pages page place before.0 ∙ before.1)
]

-- a page that is added is known
pub known_more : (pages : List ℕ) (known more : BTreeMap ℕ ℕ) (page added : ℕ) → Updates nat_cmp known more page (Some added) → added ≡ length pages → AreKnown pages known → AreKnown (pages ++ page ∷ []) more
known_more pages known more page added updates end are = record { each = known_now pages known more page added updates end are }

-- ---- no pages

-- no pages of no list
pub distinct_none : AreDistinct [] [] []
distinct_none = record { many = refl; few = omega arith; place = λ i lt. absurd (omega arith); page = λ k lt. absurd (omega arith) }

-- nothing is known of no page
pub known_none : (pages : List ℕ) (known : BTreeMap ℕ ℕ) → ((page : ℕ) → get nat_cmp known page ≡ None) → AreKnown pages known
known_none pages known none = record { each = λ page place at. let no = none page in absurd cc }

-- no bytes of no pages
pub none_stand_in : (page_size size : ℕ) → size ≡ 0 → StandIn page_size [] size [] [] 0
none_stand_in page_size size e = record { many = refl; few = omega arith; enough = omega arith; place = λ i lt. absurd (omega arith); byte = λ k lt. absurd (omega arith) }

-- ---- the bytes of pages

-- a byte of the list's pages but the last stands in the page of its place
place_before : (page_size i : ℕ) (others pages places : List ℕ) (end : ℕ) → 0 < page_size → AreDistinct others pages places → i / page_size < length others
    → (byte_place page_size (places ++ length pages ∷ []) i < length pages * page_size)
    × (get_or (pages ++ end ∷ []) (get_or (places ++ length pages ∷ []) (i / page_size) 0) 0 ≡ get_or (others ++ end ∷ []) (i / page_size) 0)
place_before page_size i others pages places end pos d h =
    let found = d.place (i / page_size) h in
    let at : get_or (places ++ length pages ∷ []) (i / page_size) 0 ≡ get_or places (i / page_size) 0 = left places (length pages) (i / page_size) (omega (arith, d.many)) in
    let fits = row_fits (get_or places (i / page_size) 0) page_size (length pages) page_size found.0 (omega arith) in
    (rw at (omega (arith, mod_below i page_size pos)), rw at (left pages end _ found.0 ∙ found.1 ∙ sym (left others end (i / page_size) h)))

-- the row of a place between two multiples
row_is : (i n size : ℕ) → 0 < size → n ≤ i / size → i < n * size + size → i / size ≡ n
row_is i n size pos low high = elim (cases_lt n (i / size)) [
  | inl h ↦ absurd (omega (arith, row_fits n size (i / size) size h (omega arith), div-add-mod' i size))
  | inr h ↦ omega arith
]

-- a byte of the last page stands in that page, which is the last of the pages
place_last : (page_size i : ℕ) (others pages places : List ℕ) (end : ℕ) → 0 < page_size → length places ≡ length others → i / page_size ≡ length others
    → (byte_place page_size (places ++ length pages ∷ []) i ≡ length pages * page_size + (i - length others * page_size))
    × (get_or (pages ++ end ∷ []) (get_or (places ++ length pages ∷ []) (i / page_size) 0) 0 ≡ get_or (others ++ end ∷ []) (i / page_size) 0)
place_last page_size i others pages places end pos many here =
    let at : get_or (places ++ length pages ∷ []) (i / page_size) 0 ≡ length pages = last places (length pages) (i / page_size) (many ∙ sym here) in
    let row : i / page_size * page_size ≡ length others * page_size = ap (λ n. n * page_size) here in
    (rw at (omega (arith, div-add-mod' i page_size)), rw at (last pages end (length pages) refl ∙ sym (last others end (i / page_size) (sym here))))

place_by : (page_size size i : ℕ) (others pages places : List ℕ) (end read : ℕ) → 0 < page_size → AreDistinct others pages places
    → length others * page_size < size → size ≤ length others * page_size + page_size → read ≡ length pages * page_size + (size - length others * page_size) → i < size
    → (byte_place page_size (places ++ length pages ∷ []) i < read)
    × (get_or (pages ++ end ∷ []) (get_or (places ++ length pages ∷ []) (i / page_size) 0) 0 ≡ get_or (others ++ end ∷ []) (i / page_size) 0)
place_by page_size size i others pages places end read pos d low high is lt = elim (cases_lt (i / page_size) (length others)) [
  | inl h ↦ let b = place_before page_size i others pages places end pos d h in (omega (arith, b.0), b.1)
  | inr h ↦
      let here = row_is i (length others) page_size pos h (omega arith) in
      let b = place_last page_size i others pages places end pos d.many here in
      let row : i / page_size * page_size ≡ length others * page_size = ap (λ n. n * page_size) here in
      (omega (arith, b.0, div-add-mod' i page_size), b.1)
]

-- the place of a byte of a page that has a place
place_at : (page_size j r : ℕ) (places : List ℕ) → r < page_size → byte_place page_size places (j * page_size + r) ≡ get_or places j 0 * page_size + r
place_at page_size j r places lt = rw (div-mul-add j page_size r lt, mod-mul-add j page_size r lt) refl

byte_by : (page_size size k : ℕ) (others pages places : List ℕ) (read : ℕ) → 0 < page_size → AreDistinct others pages places
    → length others * page_size < size → size ≤ length others * page_size + page_size → read ≡ length pages * page_size + (size - length others * page_size) → k < read
    → (i : ℕ) × (i < size) × (byte_place page_size (places ++ length pages ∷ []) i ≡ k)
byte_by page_size size k others pages places read pos d low high is lt = elim (cases_lt (k / page_size) (length pages)) [
  | inl h ↦
      let found = d.page (k / page_size) h in
      let small = mod_below k page_size pos in
      let fits = row_fits found.0 page_size (length others) page_size found.1 (omega arith) in
      let at : get_or (places ++ length pages ∷ []) found.0 0 ≡ k / page_size = left places (length pages) found.0 (omega (arith, found.1, d.many)) ∙ found.2 in
      (found.0 * page_size + k % page_size, omega arith, place_at page_size found.0 (k % page_size) (places ++ length pages ∷ []) small ∙ rw at (div-add-mod' k page_size))
  | inr h ↦
      let before = mul-le (length pages) page_size (k / page_size) page_size h (omega arith) in
      let past : length pages * page_size ≤ k = omega (arith, div-add-mod' k page_size) in
      let small : k - length pages * page_size < page_size = omega arith in
      let at : get_or (places ++ length pages ∷ []) (length others) 0 ≡ length pages = last places (length pages) (length others) d.many in (
        length others * page_size + (k - length pages * page_size),
        omega arith,
        place_at page_size (length others) (k - length pages * page_size) (places ++ length pages ∷ []) small ∙ rw at (omega arith),
      )
]

-- the distinct pages of all but the last, and the last, have the bytes of a list
pub stand_in : (page_size size : ℕ) (list others pages places : List ℕ) (end read : ℕ) → list ≡ others ++ end ∷ [] → 0 < page_size
    → size ≤ length list * page_size → length list * page_size < size + page_size → AreDistinct others pages places
    → read ≡ length pages * page_size + (size - length others * page_size)
    → StandIn page_size list size (pages ++ end ∷ []) (places ++ length pages ∷ []) read
stand_in page_size size list others pages places end read split pos enough full d is =
    let long : length list ≡ length others + 1 = ap length split ∙ one_more others end in
    let whole : length list * page_size ≡ length others * page_size + page_size = ap (λ n. n * page_size) long ∙ omega arith in
    let pages_long : length (pages ++ end ∷ []) * page_size ≡ length pages * page_size + page_size = ap (λ n. n * page_size) (one_more pages end) ∙ omega arith in
    rw split (record {
      many = omega (arith, one_more places (length pages), one_more others end, d.many);
      few = omega (arith, one_more pages end, one_more others end, d.few);
      enough = omega arith;
      place = λ i lt. place_by page_size size i others pages places end read pos d (omega arith) (omega arith) is lt;
      byte = λ k lt. byte_by page_size size k others pages places read pos d (omega arith) (omega arith) is lt;
    })
