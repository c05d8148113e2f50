-- How many pages stand before a stream's own.
use Rattle.std.proofs.Common.{◌≡◌, ◌≢◌, ℕ, zero, suc, ◌+◌, ◌-◌, ◌*◌, ◌<◌, ◌≤◌, min, List, [], ◌∷◌, ◌++◌, length, get_or, take, drop, Ok, Err, refl, sym, ap, ◌∙◌, arith}
use Rattle.std.specs.List.{sum_by}
use Rattle.std.proofs.lemmas.List.{length-drop, get_or-drop}
use Rattle.std.proofs.lemmas.List.FromFn.{map-range_with_len_more, length-map-range_with_len, get_or-map-range_with_len}
use Rattle.std.proofs.lemmas.List.Sums.{sum_by_more}
use Rattle.std.proofs.lemmas.Bool.{le-leb, lt-leb, le-ltb, lt-ltb, ne_eqb}
use Rattle.pdb_container.specs.Fault.{UnexpectedEof, StreamNotFound, ◌>>=◌}
use Rattle.pdb_container.specs.Container.{absent, page_count, pages_in, stream_pages_in}
use Rattle.pdb_container.specs.Directory.{counted_in, starts_from}

-- no stream has no start
pub starts_none : (page_size : ℕ) (sizes : List ℕ) → starts_from page_size sizes 0 ≡ []
unfolding starts_from
starts_none page_size sizes = refl

-- one start more
pub starts_more : (page_size : ℕ) (sizes : List ℕ) (k : ℕ) → starts_from page_size sizes (k + 1) ≡ starts_from page_size sizes k ++ sum_by (page_count page_size) (take (256 * k) sizes) ∷ []
unfolding starts_from
starts_more page_size sizes k = map-range_with_len_more (λ i. sum_by (page_count page_size) (take (256 * i) sizes)) 0 k k (omega arith)

-- so many starts
pub starts_len : (page_size : ℕ) (sizes : List ℕ) (n : ℕ) → length (starts_from page_size sizes n) ≡ n
unfolding starts_from
starts_len page_size sizes n = length-map-range_with_len (λ i. sum_by (page_count page_size) (take (256 * i) sizes)) 0 n

-- each start is that of the first of 256 streams
pub start_at : (page_size : ℕ) (sizes : List ℕ) (n k d : ℕ) → k < n → get_or (starts_from page_size sizes n) k d ≡ sum_by (page_count page_size) (take (256 * k) sizes)
unfolding starts_from
start_at page_size sizes n k d lt = get_or-map-range_with_len (λ i. sum_by (page_count page_size) (take (256 * i) sizes)) 0 n k k d lt (omega arith)

-- a bound on each number holds with one more
pub few_more : (xs : List ℕ) (x m k : ℕ) → ((j : ℕ) → get_or xs j 0 ≤ m) → x ≤ m → get_or (xs ++ x ∷ []) k 0 ≤ m
few_more [] x m zero h le = le
few_more [] x m (suc k) h le = omega arith
few_more (y ∷ xs) x m zero h le = h 0
few_more (y ∷ xs) x m (suc k) h le = few_more xs x m k (λ j. h (suc j)) le

behind : (x : ℕ) (xs : List ℕ) (n d : ℕ) → get_or (x ∷ xs) (1 + n) d ≡ get_or xs n d
behind x xs n d = let e : 1 + n ≡ suc n = omega arith in rw e refl

-- how many streams are counted and have sizes, where there is a count
pub counted_at : (all : List ℕ) (d : ℕ) → 0 < length all → counted_in all ≡ min (get_or all 0 d) (length all - 1)
counted_at [] d h = absurd (omega arith)
counted_at (count ∷ sizes) d h = let e : suc (length sizes) - 1 ≡ length sizes = omega arith in rw e refl

-- where there is no number there are none
pub counted_none : (all : List ℕ) → length all ≡ 0 → counted_in all ≡ 0
counted_none [] h = refl
counted_none (count ∷ sizes) h = absurd (omega arith)

-- one stream's pages more
pub pages_more : (page_size : ℕ) (all : List ℕ) (i d : ℕ) → i + 1 < length all
    → sum_by (page_count page_size) (take (i + 1) (drop 1 all)) ≡ sum_by (page_count page_size) (take i (drop 1 all)) + page_count page_size (get_or all (1 + i) d)
pages_more page_size all i d lt =
    sum_by_more (page_count page_size) (drop 1 all) i d (omega (arith, length-drop 1 all)) ∙ ap (λ n. sum_by (page_count page_size) (take i (drop 1 all)) + page_count page_size n) (get_or-drop 1 all i d)

-- ---- the place of a stream, by the ways that its search ends

-- no number at all
pub place_none : (page_size used n : ℕ) (all : List ℕ) → length all ≡ 0 → stream_pages_in page_size used n all ≡ Err UnexpectedEof
unfolding stream_pages_in
place_none page_size used n [] h = refl
place_none page_size used n (count ∷ numbers) h = absurd (omega arith)

-- a number that isn't counted
pub place_uncounted : (page_size used n : ℕ) (all : List ℕ) → 0 < length all → get_or all 0 0 ≤ n → stream_pages_in page_size used n all ≡ Err (StreamNotFound n)
unfolding stream_pages_in
place_uncounted page_size used n [] h le = absurd (omega arith)
place_uncounted page_size used n (count ∷ numbers) h le = rw (le-leb count n le) refl

-- sizes that aren't all there
pub place_short : (page_size used n : ℕ) (all : List ℕ) → 0 < length all → n < get_or all 0 0 → length all - 1 < get_or all 0 0 → stream_pages_in page_size used n all ≡ Err UnexpectedEof
unfolding stream_pages_in
place_short page_size used n [] h lt short = absurd (omega arith)
place_short page_size used n (count ∷ numbers) h lt short =
    let e : length numbers < count = omega arith in
    rw (lt-leb count n lt, lt-ltb (length numbers) count e) refl

-- a stream that isn't there
pub place_absent : (page_size used n : ℕ) (all : List ℕ) → 0 < length all → n < get_or all 0 0 → get_or all 0 0 ≤ length all - 1 → get_or all (1 + n) 0 ≡ absent
    → stream_pages_in page_size used n all ≡ Err (StreamNotFound n)
unfolding stream_pages_in
place_absent page_size used n [] h lt le missing = absurd (omega arith)
place_absent page_size used n (count ∷ numbers) h lt le missing =
    let e : count ≤ length numbers = omega arith in
    rw (lt-leb count n lt, le-ltb (length numbers) count e, sym (behind count numbers n 0) ∙ missing) refl

pages_taken : (used n : ℕ) (numbers : List ℕ) → pages_in used n (take n numbers) ≡ pages_in used n numbers
pages_taken used zero numbers = refl
pages_taken used (suc n) [] = refl
pages_taken used (suc n) (page ∷ numbers) = rw (pages_taken used n numbers) refl

place_there : (page_size used n count : ℕ) (numbers : List ℕ) → n < count → count ≤ length numbers → get_or numbers n 0 ≢ absent
    → stream_pages_in page_size used n (count ∷ numbers)
    ≡ (pages_in used (page_count page_size (get_or numbers n 0)) (drop (count + sum_by (page_count page_size) (take n numbers)) numbers) >>= λ pages. Ok (get_or numbers n 0, pages))
unfolding stream_pages_in
place_there page_size used n count numbers lt le present = rw (lt-leb count n lt, le-ltb (length numbers) count le, ne_eqb (get_or numbers n 0) absent present) refl

-- one that is there, by its own numbers
pub place_read : (page_size used n size from pages : ℕ) (all own : List ℕ) → 0 < length all → n < get_or all 0 0 → get_or all 0 0 ≤ length all - 1
    → size ≡ get_or all (1 + n) 0 → size ≢ absent → pages ≡ page_count page_size size
    → from ≡ 1 + get_or all 0 0 + sum_by (page_count page_size) (take n (drop 1 all)) → own ≡ take pages (drop from all)
    → stream_pages_in page_size used n all ≡ (pages_in used pages own >>= λ found. Ok (size, found))
place_read page_size used n size from pages [] own h lt le is present enough begins has = absurd (omega arith)
place_read page_size used n size from pages (count ∷ numbers) own h lt le is present enough begins has =
    let there : size ≡ get_or numbers n 0 = is ∙ behind count numbers n 0 in
    let e : from ≡ suc (count + sum_by (page_count page_size) (take n numbers)) = omega arith in
    let mine : own ≡ take pages (drop (count + sum_by (page_count page_size) (take n numbers)) numbers) = rw e at has in
    let found = place_there page_size used n count numbers lt (omega arith) (rw there at present) in
    rw (mine, pages_taken used pages (drop (count + sum_by (page_count page_size) (take n numbers)) numbers), enough, there) found
