-- A stream under a limit.
use Rattle.std.proofs.Common.{◌≡◌, ℕ, ◌≤◌, List, take, drop, min, Result, Ok, Err, Option, Some, None, refl, sym, ap, ◌∙◌, arith, get_or, ◌+◌, ◌*◌, ◌/◌, ◌%◌}
use Rattle.std.proofs.lemmas.List.{length-take, get_or-take, take-append-drop}
use Rattle.std.proofs.lemmas.List.FromFn.{take-map-range_with_len}
use Rattle.pdb_container.specs.Fault.{Fault, ◌>>=◌}
use Rattle.pdb_container.specs.Container.{layout_of, directory_of, stream_pages_in, stream_in, stream}
use Rattle.pdb_container.specs.Paged.{HasNoPlace, by_header, by_directory, by_numbers, IsLimited}
use Rattle.pdb_container.specs.Places.{bytes_at, page_places, IsPaged}
use Rattle.pdb_container.proofs.Bytes.{bytes_at_append}
use Rattle.pdb_container.proofs.Literal.{is_stream, from_stream}

paged_front : (file pages v : List ℕ) (size count k : ℕ) → IsPaged file size pages count v → IsPaged file size pages (min count k) (take k v)
paged_front file pages v size count k h =
    record {
      len = omega (arith, length-take k v, h.len);
      byte = λ i lt. get_or-take k v i 0 (omega arith) ∙ h.byte i (omega arith);
      there = λ i lt. h.there i (omega arith);
    }

-- a limit cuts a stream that is there to its first bytes
pub limit_cuts : (file : List ℕ) (n k : ℕ) (bytes : List ℕ) → stream file n None ≡ Ok bytes → stream file n (Some k) ≡ Ok (take k bytes)
limit_cuts file n k bytes h =
    let s = is_stream file n None bytes h in
    from_stream file n (Some k) (take k bytes) (record {
      layout = s.layout;
      opens = s.opens;
      numbers = s.numbers;
      directory = s.directory;
      found = s.found;
      place = s.place;
      paged = paged_front file s.found.1 bytes s.layout.page_size s.found.0 k s.paged;
    })

no_place : (file : List ℕ) (n : ℕ) (limit : Option ℕ) (e : Fault) → HasNoPlace file n e → stream file n limit ≡ Err e
unfolding stream stream_in
no_place file n limit e (by_header a) = rw a refl
no_place file n limit e (by_directory h a b) = rw (a, b) refl
no_place file n limit e (by_numbers h numbers a b c) = rw (a, b, c) refl

-- where the first bytes are not all there, the whole is not
more_fails : (file pages : List ℕ) (size count k : ℕ) (e : Fault) → k ≤ count → bytes_at file (page_places size pages k) ≡ Err e → bytes_at file (page_places size pages count) ≡ Err e
unfolding page_places
more_fails file pages size count k e le h =
    let places = page_places size pages count in
    let front : take k places ≡ page_places size pages k = take-map-range_with_len (λ i. get_or pages (i / size) 0 * size + i % size) 0 count k le in
    ap (bytes_at file) (sym (take-append-drop k places)) ∙ rw (bytes_at_append file (take k places) (drop k places), front, h) refl

bind_kept : {A B : Type 0} (r : Result A Fault) (f g : A → Result B Fault) (e : Fault) → ((x : A) → f x ≡ Err e → g x ≡ Err e) → (r >>= f) ≡ Err e → (r >>= g) ≡ Err e
bind_kept (Ok x) f g e h same = h x same
bind_kept (Err x) f g e h same = same

limit_keeps : (file : List ℕ) (n k : ℕ) (e : Fault) → stream file n (Some k) ≡ Err e → stream file n None ≡ Err e
unfolding stream stream_in
limit_keeps file n k e =
    bind_kept (layout_of file) (λ h. stream_in h file n (Some k)) (λ h. stream_in h file n None) e
    (λ h. bind_kept (directory_of h file)
    (λ d. stream_pages_in h.page_size h.pages_used n d >>= λ found. bytes_at file (page_places h.page_size found.1 (min found.0 k)))
    (λ d. stream_pages_in h.page_size h.pages_used n d >>= λ found. bytes_at file (page_places h.page_size found.1 found.0)) e
    (λ d. bind_kept (stream_pages_in h.page_size h.pages_used n d)
    (λ found. bytes_at file (page_places h.page_size found.1 (min found.0 k)))
    (λ found. bytes_at file (page_places h.page_size found.1 found.0)) e
    (λ found. more_fails file found.1 h.page_size found.0 (min found.0 k) e (omega arith))))

-- what a limit makes of a stream, whole
pub is_limited : (file : List ℕ) (n : ℕ) → IsLimited file n
is_limited file n = record { cut = limit_cuts file n; checked = no_place file n; kept = limit_keeps file n }
