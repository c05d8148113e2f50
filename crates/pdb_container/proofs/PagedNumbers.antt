-- Numbers that are read through pages.
use Rattle.std.proofs.Common.{◌≡◌, ℕ, ◌+◌, ◌*◌, ◌/◌, ◌%◌, ◌<◌, ◌≤◌, ◌^◌, ◌-◌, ◌⊎◌, inl, inr, min, List, length, get_or, take, drop, map, Result, Ok, Err, cond, ltb, Bool, true, false, refl, sym, ap, ◌∙◌, arith}
use Rattle.std.specs.List.{range_with_len, list_all}
use Rattle.std.specs.declared.io.ErrorKind.TheVariants.{UnexpectedEof}
use Rattle.std.proofs.lemmas.List.{get_or-take, get_or-drop, length-drop, take_min}
use Rattle.std.proofs.lemmas.List.FromFn.{length-map-range_with_len, get_or-map-range_with_len, fill_by_all}
use Rattle.std.proofs.lemmas.Nat.{div-mul-add, mod-mul-add, div_below, mod_below, div-add-mod'}
use Rattle.pdb_container.specs.declared.error.Error.{Error}
use Rattle.pdb_container.specs.Fault.{Fault, IoError, ◌>>=◌, IsOutside, fault_of}
use Rattle.pdb_container.specs.Container.{word_at, first_words, words}
use Rattle.pdb_container.specs.Places.{bytes_at, page_places, IsPaged}
use Rattle.pdb_container.specs.PagedNumbers.{StandIn, AreThere, byte_place, numbers_through}
use Rattle.pdb_container.proofs.Literal.{is_paged, from_paged}

-- so many numbers
pub through_len : (page_size : ℕ) (places bytes : List ℕ) (count : ℕ) → length (numbers_through page_size places bytes count) ≡ count
unfolding numbers_through
through_len page_size places bytes count = length-map-range_with_len (λ i. word_at bytes (byte_place page_size places (4 * i))) 0 count

-- each of four bytes, from its place on
pub through_at : (page_size : ℕ) (places bytes : List ℕ) (count i d : ℕ) → i < count → get_or (numbers_through page_size places bytes count) i d ≡ word_at bytes (byte_place page_size places (4 * i))
unfolding numbers_through
through_at page_size places bytes count i d lt = get_or-map-range_with_len (λ k. word_at bytes (byte_place page_size places (4 * k))) 0 count i i d lt (omega arith)

-- at most so many numbers from a place on are as many as there are
pub taken : (xs : List ℕ) (from count there : ℕ) → there ≡ min (length xs - from) count → take there (drop from xs) ≡ take count (drop from xs)
taken xs from count there e =
    let least : there ≡ min count (length (drop from xs)) = omega (arith, length-drop from xs) in
    rw least (take_min count (drop from xs))

-- ---- a number's four bytes stand in one page

turned : (q s : ℕ) → q * (4 * s) ≡ 4 * (q * s)
turned q s = grind arith

-- after a multiple of four there are four bytes of the page at least
room : (page_size i : ℕ) → 0 < page_size → page_size % 4 ≡ 0 → 4 * i % page_size + 4 ≤ page_size
room page_size i pos by_four =
    let size : page_size ≡ 4 * (page_size / 4) = omega arith in
    let row : 4 * i / page_size * page_size ≡ 4 * (4 * i / page_size * (page_size / 4)) = ap (λ n. 4 * i / page_size * n) size ∙ turned (4 * i / page_size) (page_size / 4) in
    let small = mod_below (4 * i) page_size pos in
    let whole = div-add-mod' (4 * i) page_size in
    omega arith

-- the bytes of a number follow one another
follows : (page_size i j : ℕ) (places : List ℕ) → 0 < page_size → page_size % 4 ≡ 0 → j < 4 → byte_place page_size places (4 * i + j) ≡ byte_place page_size places (4 * i) + j
follows page_size i j places pos by_four lt =
    let there = room page_size i pos by_four in
    let whole : 4 * i + j ≡ 4 * i / page_size * page_size + (4 * i % page_size + j) = omega (arith, div-add-mod' (4 * i) page_size) in
    let row : (4 * i + j) / page_size ≡ 4 * i / page_size = ap (λ n. n / page_size) whole ∙ div-mul-add (4 * i / page_size) page_size (4 * i % page_size + j) (omega arith) in
    let column : (4 * i + j) % page_size ≡ 4 * i % page_size + j = ap (λ n. n % page_size) whole ∙ mod-mul-add (4 * i / page_size) page_size (4 * i % page_size + j) (omega arith) in
    rw (row, column) (omega arith)

-- the numbers of bytes that were read are there
pub read_there : (page_size size : ℕ) (list pages places bytes : List ℕ) (read : ℕ) → StandIn page_size list size pages places read → 0 < page_size → page_size % 4 ≡ 0 → size < 2 ^ 32
    → size ≤ length list * page_size → length bytes ≡ read → AreThere page_size places bytes (size / 4)
read_there page_size size list pages places bytes read s pos by_four few enough len = record {
  sized = pos;
  few = omega arith;
  page = λ i lt. omega (arith, div_below (4 * i) page_size (length list) pos (omega arith), s.many);
  word = λ i lt. omega (arith, (s.place (4 * i + 3) (omega arith)).0, follows page_size i 3 places pos by_four (omega arith));
}

-- ---- what was read is what the list's pages hold

byte_of : (xs : List ℕ) (a j : ℕ) → j < 4 → get_or (take 4 (drop a xs)) j 0 ≡ get_or xs (a + j) 0
byte_of xs a j lt = get_or-take 4 (drop a xs) j 0 lt ∙ get_or-drop a xs j 0

-- four bytes that are the same spell the same number
same_word : (xs ys : List ℕ) (a b : ℕ) → ((j : ℕ) → j < 4 → get_or xs (a + j) 0 ≡ get_or ys (b + j) 0) → word_at xs a ≡ word_at ys b
same_word xs ys a b same =
    let one : (j : ℕ) → j < 4 → get_or (take 4 (drop a xs)) j 0 ≡ get_or (take 4 (drop b ys)) j 0 = λ j lt. byte_of xs a j lt ∙ same j lt ∙ sym (byte_of ys b j lt) in
    let e0 = one 0 (omega arith) in
    let e1 = one 1 (omega arith) in
    let e2 = one 2 (omega arith) in
    let e3 = one 3 (omega arith) in
    rw (e0, e1, e2, e3) refl

-- the bytes of the list's pages, by those that were read
abbrev through : ℕ → List ℕ → List ℕ → ℕ → List ℕ
through page_size places bytes size = map (λ i. get_or bytes (byte_place page_size places i) 0) (range_with_len 0 size)

in_file : (page_size size i : ℕ) (list pages places : List ℕ) (read : ℕ) → StandIn page_size list size pages places read → 0 < page_size → i < size
    → get_or pages (byte_place page_size places i / page_size) 0 * page_size + byte_place page_size places i % page_size ≡ get_or list (i / page_size) 0 * page_size + i % page_size
in_file page_size size i list pages places read s pos lt =
    let small = mod_below i page_size pos in
    let row = div-mul-add (get_or places (i / page_size) 0) page_size (i % page_size) small in
    let column = mod-mul-add (get_or places (i / page_size) 0) page_size (i % page_size) small in
    rw (row, column, (s.place i lt).1) refl

read_paged : (file : List ℕ) (page_size size : ℕ) (list pages places bytes : List ℕ) (read : ℕ) → StandIn page_size list size pages places read → 0 < page_size
    → IsPaged file page_size pages read bytes → IsPaged file page_size list size (through page_size places bytes size)
read_paged file page_size size list pages places bytes read s pos p =
    let at : (i : ℕ) → i < size → get_or pages (byte_place page_size places i / page_size) 0 * page_size + byte_place page_size places i % page_size ≡ get_or list (i / page_size) 0 * page_size + i % page_size
    = λ i lt. in_file page_size size i list pages places read s pos lt in
    record {
      len = length-map-range_with_len (λ i. get_or bytes (byte_place page_size places i) 0) 0 size;
      byte = λ i lt. get_or-map-range_with_len (λ k. get_or bytes (byte_place page_size places k) 0) 0 size i i 0 lt (omega arith)
          ∙ p.byte (byte_place page_size places i) ((s.place i lt).0) ∙ ap (λ n. get_or file n 0) (at i lt);
      there = λ i lt. rw (← at i lt) (p.there (byte_place page_size places i) ((s.place i lt).0));
    }

words_through : (page_size size : ℕ) (places bytes : List ℕ) → 0 < page_size → page_size % 4 ≡ 0 → words (through page_size places bytes size) ≡ numbers_through page_size places bytes (size / 4)
unfolding first_words numbers_through
words_through page_size size places bytes pos by_four =
    let full = through page_size places bytes size in
    let len : length full ≡ size = length-map-range_with_len (λ i. get_or bytes (byte_place page_size places i) 0) 0 size in
    let byte : (i : ℕ) → i < size → get_or full i 0 ≡ get_or bytes (byte_place page_size places i) 0 = λ i lt. get_or-map-range_with_len (λ k. get_or bytes (byte_place page_size places k) 0) 0 size i i 0 lt (omega arith) in
    let word : (i : ℕ) → i < size / 4 → word_at full (4 * i) ≡ word_at bytes (byte_place page_size places (4 * i)) =
    λ i lt. same_word full bytes (4 * i) (byte_place page_size places (4 * i)) (λ j lt4. byte (4 * i + j) (omega arith) ∙ ap (λ n. get_or bytes n 0) (follows page_size i j places pos by_four lt4)) in
    fill_by_all (λ i. word_at bytes (byte_place page_size places (4 * i))) (first_words full (length full / 4)) (size / 4) 0
    (length-map-range_with_len (λ i. word_at full (4 * i)) 0 (length full / 4) ∙ ap (λ n. n / 4) len)
    (λ i lt. get_or-map-range_with_len (λ k. word_at full (4 * k)) 0 (length full / 4) i i 0 (omega (arith, ap (λ n. n / 4) len)) (omega arith) ∙ word i lt)

-- what was read spells the list's numbers
pub read_words : (file : List ℕ) (page_size size : ℕ) (list pages places bytes : List ℕ) (read : ℕ) → StandIn page_size list size pages places read → 0 < page_size → page_size % 4 ≡ 0
    → bytes_at file (page_places page_size pages read) ≡ Ok bytes
    → (bytes_at file (page_places page_size list size) >>= λ b. Ok (words b)) ≡ Ok (numbers_through page_size places bytes (size / 4))
read_words file page_size size list pages places bytes read s pos by_four h =
    let paged = read_paged file page_size size list pages places bytes read s pos (is_paged file pages bytes page_size read h) in
    rw (from_paged file list (through page_size places bytes size) page_size size paged) (ap (λ (xs : List ℕ). Ok xs) (words_through page_size size places bytes pos by_four))

-- ---- what can't be read isn't in the list's pages

kept_fault : (b : Bool) (xs : List ℕ) (e fault : Fault) → cond b (Ok xs) (Err fault) ≡ Err e → e ≡ fault
kept_fault true xs e fault h = absurd cc
kept_fault false xs e fault h = cc

fault_is : (file places : List ℕ) (e : Fault) → bytes_at file places ≡ Err e → e ≡ IoError UnexpectedEof
unfolding bytes_at
fault_is file places e h = kept_fault (list_all (λ at. ltb at (length file)) places) (map (λ at. get_or file at 0) places) e (IoError UnexpectedEof) h

abbrev place : ℕ → List ℕ → ℕ → ℕ
place page_size pages i = get_or pages (i / page_size) 0 * page_size + i % page_size

all_read : (file : List ℕ) (page_size size : ℕ) (list pages places full : List ℕ) (read : ℕ) → StandIn page_size list size pages places read → 0 < page_size
    → IsPaged file page_size list size full → IsPaged file page_size pages read (map (λ k. get_or file (place page_size pages k) 0) (range_with_len 0 read))
all_read file page_size size list pages places full read s pos p = record {
  len = length-map-range_with_len (λ k. get_or file (place page_size pages k) 0) 0 read;
  byte = λ k lt. get_or-map-range_with_len (λ n. get_or file (place page_size pages n) 0) 0 read k k 0 lt (omega arith);
  there = λ k lt. let found = s.byte k lt in
      let at : place page_size pages k ≡ place page_size list found.0 = ap (place page_size pages) (sym found.2) ∙ in_file page_size size found.0 list pages places read s pos found.1 in
      rw at (p.there found.0 found.1);
}

by_result : (file : List ℕ) (page_size size : ℕ) (list pages places : List ℕ) (read : ℕ) (e : Fault) → StandIn page_size list size pages places read → 0 < page_size
    → bytes_at file (page_places page_size pages read) ≡ Err e → (r : Result (List ℕ) Fault) → bytes_at file (page_places page_size list size) ≡ r → bytes_at file (page_places page_size list size) ≡ Err e
by_result file page_size size list pages places read e s pos h (Ok full) is =
    let there = from_paged file pages (map (λ k. get_or file (place page_size pages k) 0) (range_with_len 0 read)) page_size read (all_read file page_size size list pages places full read s pos (is_paged file list full page_size size is)) in
    absurd cc
by_result file page_size size list pages places read e s pos h (Err fault) is =
    let one = fault_is file (page_places page_size list size) fault is in
    let other = fault_is file (page_places page_size pages read) e h in
    is ∙ ap (λ (x : Fault). Err x) (one ∙ sym other)

-- where the pages can't be read, those of the list can't
read_fails : (file : List ℕ) (page_size size : ℕ) (list pages places : List ℕ) (read : ℕ) (e : Fault) → StandIn page_size list size pages places read → 0 < page_size
    → bytes_at file (page_places page_size pages read) ≡ Err e → (bytes_at file (page_places page_size list size) >>= λ b. Ok (words b)) ≡ Err e
read_fails file page_size size list pages places read e s pos h =
    rw (by_result file page_size size list pages places read e s pos h (bytes_at file (page_places page_size list size)) refl) refl

-- what refuses the pages refuses those of the list
pub read_refused : (file : List ℕ) (page_size size : ℕ) (list pages places : List ℕ) (read : ℕ) (e : Error) (failed : Type 0) → StandIn page_size list size pages places read → 0 < page_size
    → (IsOutside e failed ⊎ (bytes_at file (page_places page_size pages read) ≡ Err (fault_of e)))
    → IsOutside e failed ⊎ ((bytes_at file (page_places page_size list size) >>= λ b. Ok (words b)) ≡ Err (fault_of e))
read_refused file page_size size list pages places read e failed s pos (inl outside) = inl outside
read_refused file page_size size list pages places read e failed s pos (inr h) = inr (read_fails file page_size size list pages places read (fault_of e) s pos h)
