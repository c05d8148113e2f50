-- What follows the pages that a header counts is part of no stream.
use Rattle.std.proofs.Common.{◌≡◌, ℕ, zero, suc, ◌+◌, ◌*◌, ◌/◌, ◌%◌, ◌<◌, ◌≤◌, Bool, List, [], ◌∷◌, ◌++◌, length, get_or, take, drop, map, true, false, Result, Ok, Err, Option, refl, sym, ap, subst, ◌∙◌, arith}
use Rattle.std.specs.Prelude.{◌&&◌, ◌==◌, nat_le, nat_lt, nat_eq, slice_index}
use Rattle.std.specs.List.{range_with_len, starts_with, sum_by}
use Rattle.std.specs.Int.{from_le_bytes, w32, div_ceil, is_power_of_two}
use Rattle.std.proofs.lemmas.Bool.{le-ltb, leb-true}
use Rattle.std.proofs.lemmas.Nat.{mul-add-lt}
use Rattle.std.proofs.Math.Nat.{mod-lt}
use Rattle.std.proofs.lemmas.List.{take-append-le, get_or_append_left, length-append, append-nil, drop-take, take-take}
use Rattle.std.proofs.lemmas.List.FromFn.{length-map-range_with_len, get_or-map-range_with_len}
use Rattle.pdb_container.specs.Fault.{Fault, ◌>>=◌, guard, refuse}
use Rattle.pdb_container.specs.Container.{Layout, word_at, words, IsPageSize, magic, list_count, behind_header, absent, page_count, pages_in, header_in, front_in, layout_of, pages_end, directory_of, stream_pages_in, stream_in, at_most, stream}
use Rattle.pdb_container.specs.Places.{bytes_at, page_places}
use Rattle.pdb_container.proofs.Literal.{from_paged, bind_ok, both_true}

-- ---- the header is the same

front_by_length : (n : ℕ) (file tail : List ℕ) → n ≤ length file → (nat_lt (length (file ++ tail)) n ≡ nat_lt (length file) n) × (take n (file ++ tail) ≡ take n file)
front_by_length n file tail long =
    (le-ltb (length (file ++ tail)) n (omega (arith, length-append file tail)) ∙ sym (le-ltb (length file) n long), take-append-le n file tail long)

front_same : (file tail : List ℕ) → 4096 ≤ length file → front_in (file ++ tail) ≡ front_in file
unfolding front_in
front_same file tail long = let h = front_by_length 4096 file tail long in rw (h.0, h.1) refl

pub same_layout : (file tail : List ℕ) → 4096 ≤ length file → layout_of (file ++ tail) ≡ layout_of file
unfolding layout_of
same_layout file tail long = rw (front_same file tail long) refl

-- ---- page numbers that were read are in range

guarded : {A : Type 0} (b : Bool) (e : Fault) (r : Result A Fault) (x : A) → (guard b e >>= λ _. r) ≡ Ok x → (b ≡ true) × (r ≡ Ok x)
guarded true e r x h = (refl, h)
guarded false e r x h = absurd cc

refused : {A : Type 0} (b : Bool) (e : Fault) (r : Result A Fault) (x : A) → (refuse b e >>= λ _. r) ≡ Ok x → r ≡ Ok x
refused true e r x h = absurd cc
refused false e r x h = h

first_low : (used p : ℕ) (others : List ℕ) → p ≤ used → ((k : ℕ) → get_or others k 0 ≤ used) → (k : ℕ) → get_or (p ∷ others) k 0 ≤ used
first_low used p others low rest zero = low
first_low used p others low rest (suc k) = rest k

pages_low : (used n : ℕ) (numbers pages : List ℕ) → pages_in used n numbers ≡ Ok pages → (k : ℕ) → get_or pages k 0 ≤ used
pages_low used zero numbers pages h k = let e : [] ≡ pages = cc in rw (sym e) (omega arith)
pages_low used (suc n) [] pages h k = absurd cc
pages_low used (suc n) (p ∷ numbers) pages h k =
    let in_range = guarded (nat_le 1 p && nat_le p used) _ (pages_in used n numbers >>= λ others. Ok (p ∷ others)) pages h in
    let read = bind_ok (pages_in used n numbers) (λ others. Ok (p ∷ others)) pages in_range.1 in
    let e : p ∷ read.0 ≡ pages = cc in
    rw (sym e) (first_low used p read.0 (leb-true p used (both_true (nat_le 1 p) (nat_le p used) in_range.0).1) (pages_low used n numbers read.0 read.1) k)

-- ---- bytes of pages before the end

page_before : (used size p i reach : ℕ) → 0 < size → p ≤ used → (used + 1) * size ≤ reach → p * size + i % size < reach
page_before used size p i reach pos low le = omega (arith, mul-add-lt p size (i % size) (used + 1) (omega arith) (mod-lt i pos), le)

abbrev there_bytes : (file pages : List ℕ) (size count : ℕ) → List ℕ
there_bytes file pages size count = map (λ i. get_or file (get_or pages (i / size) 0 * size + i % size) 0) (range_with_len 0 count)

is_there : (file tail pages : List ℕ) (size count : ℕ) → ((i : ℕ) → get_or pages (i / size) 0 * size + i % size < length file)
    → bytes_at (file ++ tail) (page_places size pages count) ≡ Ok (there_bytes file pages size count)
is_there file tail pages size count within = from_paged (file ++ tail) pages (there_bytes file pages size count) size count (record {
  len = length-map-range_with_len _ 0 count;
  byte = λ i lt. get_or-map-range_with_len (λ k. get_or file (get_or pages (k / size) 0 * size + k % size) 0) 0 count i i 0 lt (omega arith)
      ∙ sym (get_or_append_left file tail 0 (get_or pages (i / size) 0 * size + i % size) (within i));
  there = λ i lt. omega (arith, within i, length-append file tail);
})

same_bytes : (file tail pages : List ℕ) (used size count : ℕ) → 0 < size → ((k : ℕ) → get_or pages k 0 ≤ used) → (used + 1) * size ≤ length file
    → bytes_at (file ++ tail) (page_places size pages count) ≡ bytes_at file (page_places size pages count)
same_bytes file tail pages used size count pos low le =
    let within : (i : ℕ) → get_or pages (i / size) 0 * size + i % size < length file = λ i. page_before used size (get_or pages (i / size) 0) i (length file) pos (low (i / size)) le in
    is_there file tail pages size count within ∙ sym (is_there file [] pages size count within) ∙ ap (λ xs. bytes_at xs (page_places size pages count)) (append-nil file)

-- ---- streams

bind_same : {A B : Type 0} (r : Result A Fault) (f g : A → Result B Fault) → ((x : A) → r ≡ Ok x → f x ≡ g x) → (r >>= f) ≡ (r >>= g)
bind_same (Ok x) f g same = same x refl
bind_same (Err e) f g same = refl

-- what a header that was read says of its pages
record Counts (h : Layout) (reach : ℕ) : Type 0 where
  pos : 0 < h.page_size
  low : (k : ℕ) → get_or h.list_pages k 0 ≤ h.pages_used
  le : (h.pages_used + 1) * h.page_size ≤ reach

-- a number in the first bytes
pub word_before : (bytes : List ℕ) (at rest : ℕ) → 4 ≤ rest → word_at (take (at + rest) bytes) at ≡ word_at bytes at
word_before bytes at rest low = ap (from_le_bytes w32) (ap (take 4) (drop-take at rest bytes) ∙ take-take 4 rest (drop at bytes) low)

size_pos : (size : ℕ) → IsPageSize size ≡ true → 0 < size
size_pos size h = omega (arith, leb-true 0x100 size (both_true (nat_le 0x100 size) (nat_le size 0x800000) (both_true (is_power_of_two size) (nat_le 0x100 size && nat_le size 0x800000) h).1).0)

-- what a header that was read has of its first bytes
record Read (front : List ℕ) (h : Layout) : Type 0 where
  size : h.page_size ≡ word_at front 32
  used : h.pages_used ≡ word_at front 40
  pos : 0 < h.page_size
  low : (k : ℕ) → get_or h.list_pages k 0 ≤ h.pages_used

abbrev header_with : List ℕ → List ℕ → Layout
header_with front list = record { page_size = word_at front 32; pages_used = word_at front 40; directory_size = word_at front 44; list_pages = list }

layout_read : (front list : List ℕ) (h : Layout) → Path (Result Layout Fault) (Ok (header_with front list)) (Ok h) → 0 < word_at front 32 → ((k : ℕ) → get_or list k 0 ≤ word_at front 40) → Read front h
layout_read front list h e pos low =
    let same : header_with front list ≡ h = cc in
    subst (Read front) same (record { size = refl; used = refl; pos = pos; low = low })

header_read : (front : List ℕ) (h : Layout) → header_in front ≡ Ok h → Read front h
unfolding header_in
header_read front h opens =
    let known = guarded (starts_with nat_eq front magic) _ _ h opens in
    let sized = guarded (IsPageSize (word_at front 32)) _ _ h known.1 in
    let list = bind_ok (pages_in (word_at front 40) (list_count (word_at front 32) (word_at front 44)) (words (behind_header front))) _ h sized.1 in
    layout_read front list.0 h list.2 (size_pos (word_at front 32) sized.0) (pages_low (word_at front 40) (list_count (word_at front 32) (word_at front 44)) (words (behind_header front)) list.0 list.1)

counts_of : (file : List ℕ) (h : Layout) → pages_end file ≤ length file → Read (take 4096 file) h → Counts h (length file)
counts_of file h reach r = record { pos = r.pos; low = r.low; le = rw (r.size, r.used, word_before file 32 4064 (omega arith), word_before file 40 4056 (omega arith)) reach }

front_whole : (file : List ℕ) → 4096 ≤ length file → front_in file ≡ Ok (take 4096 file)
unfolding front_in
front_whole file long = rw (le-ltb (length file) 4096 long) refl

counted : (file : List ℕ) (h : Layout) → 4096 ≤ length file → pages_end file ≤ length file → layout_of file ≡ Ok h → Counts h (length file)
unfolding layout_of
counted file h long reach opens = let read = rw (front_whole file long) at opens in counts_of file h reach (header_read (take 4096 file) h read)

same_directory : (file tail : List ℕ) (h : Layout) → Counts h (length file) → directory_of h (file ++ tail) ≡ directory_of h file
unfolding directory_of
same_directory file tail h c =
    rw (same_bytes file tail h.list_pages h.pages_used h.page_size (4 * div_ceil h.directory_size h.page_size) c.pos c.low c.le)
    (bind_same (bytes_at file (page_places h.page_size h.list_pages (4 * div_ceil h.directory_size h.page_size))) _ _
    (λ list known. bind_same (pages_in h.pages_used (div_ceil h.directory_size h.page_size) (words list)) _ _
    (λ pages read. rw (same_bytes file tail pages h.pages_used h.page_size h.directory_size c.pos (pages_low h.pages_used (div_ceil h.directory_size h.page_size) (words list) pages read) c.le) refl)))

found_low : (size used n : ℕ) (numbers : List ℕ) (found : ℕ × List ℕ) → stream_pages_in size used n numbers ≡ Ok found → (k : ℕ) → get_or found.1 k 0 ≤ used
unfolding stream_pages_in
found_low size used n [] found h = absurd cc
found_low size used n (count ∷ numbers) found h =
    let known = refused (nat_le count n) _ _ found h in
    let whole = refused (nat_lt (length numbers) count) _ _ found known in
    let present = refused (slice_index numbers n == absent) _ _ found whole in
    let read = bind_ok (pages_in used (page_count size (slice_index numbers n)) (drop (count + sum_by (page_count size) (take n numbers)) numbers)) _ found present in
    let e : (slice_index numbers n, read.0) ≡ found = cc in
    rw (sym e) (pages_low used (page_count size (slice_index numbers n)) (drop (count + sum_by (page_count size) (take n numbers)) numbers) read.0 read.1)

same_stream : (file tail : List ℕ) (h : Layout) (n : ℕ) (limit : Option ℕ) → Counts h (length file) → stream_in h (file ++ tail) n limit ≡ stream_in h file n limit
unfolding stream_in
same_stream file tail h n limit c =
    rw (same_directory file tail h c)
    (bind_same (directory_of h file) _ _
    (λ directory known. bind_same (stream_pages_in h.page_size h.pages_used n directory) _ _
    (λ found read. same_bytes file tail found.1 h.pages_used h.page_size (at_most limit found.0) c.pos (found_low h.page_size h.pages_used n directory found read) c.le)))

pub same_streams : (file tail : List ℕ) (n : ℕ) (limit : Option ℕ) → 4096 ≤ length file → pages_end file ≤ length file → stream (file ++ tail) n limit ≡ stream file n limit
unfolding stream
same_streams file tail n limit long reach =
    rw (same_layout file tail long) (bind_same (layout_of file) _ _ (λ h opens. same_stream file tail h n limit (counted file h long reach opens)))
