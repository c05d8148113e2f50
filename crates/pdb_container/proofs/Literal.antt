-- What the bytes of pages are, byte by byte.
use Rattle.std.proofs.Common.{◌≡◌, ℕ, ◌+◌, ◌*◌, ◌/◌, ◌%◌, ◌<◌, Bool, true, false, cond, ltb, List, [], ◌∷◌, zero, suc, length, get_or, ◌&&◌, Ok, Err, refl, sym, ap, ◌∙◌, arith}
use Rattle.std.specs.Prelude.{map}
use Rattle.std.specs.List.{range_with_len, list_all}
use Rattle.std.specs.declared.io.ErrorKind.TheVariants.{UnexpectedEof}
use Rattle.std.proofs.lemmas.Bool.{ltb-true, lt-ltb}
use Rattle.std.proofs.lemmas.List.{length-map, ext_get_or}
use Rattle.std.proofs.lemmas.List.FromFn.{length-map-range_with_len, get_or-map-range_with_len}
use Rattle.pdb_container.specs.Fault.{Fault}
use Rattle.pdb_container.specs.Fault.{IoError}
use Rattle.pdb_container.specs.Fault.{◌>>=◌}
use Rattle.std.specs.Prelude.{Option, Result}
use Rattle.pdb_container.specs.Container.{layout_of, directory_of, stream_pages_in, at_most, stream_in, stream}
use Rattle.pdb_container.specs.Paged.{IsStream}
use Rattle.pdb_container.specs.Places.{bytes_at, page_places, IsPaged}

chosen : (b : Bool) (e : Fault) (x y : List ℕ) → cond b (Ok x) (Err e) ≡ Ok y → x ≡ y
chosen true e x y h = cc
chosen false e x y h = absurd cc

get_or-map : (f : ℕ → ℕ) (xs : List ℕ) (i : ℕ) → i < length xs → get_or (map f xs) i 0 ≡ f (get_or xs i 0)
get_or-map f [] i h = absurd (omega arith)
get_or-map f (x ∷ xs) zero h = refl
get_or-map f (x ∷ xs) (suc i) h = get_or-map f xs i (omega arith)

chosen_true : (b : Bool) (e : Fault) (x y : List ℕ) → cond b (Ok x) (Err e) ≡ Ok y → b ≡ true
chosen_true true e x y h = refl
chosen_true false e x y h = absurd cc

pub both_true : (a b : Bool) → (a && b) ≡ true → (a ≡ true) × (b ≡ true)
both_true true b h = (refl, h)
both_true false b h = absurd cc

all_at : (test : ℕ → Bool) (xs : List ℕ) (i : ℕ) → list_all test xs ≡ true → i < length xs → test (get_or xs i 0) ≡ true
all_at test [] i h lt = absurd (omega arith)
all_at test (x ∷ xs) zero h lt = (both_true (test x) (list_all test xs) h).0
all_at test (x ∷ xs) (suc i) h lt = all_at test xs i (both_true (test x) (list_all test xs) h).1 (omega arith)

-- bytes that were read of pages are the file's, byte by byte
pub is_paged : (file pages v : List ℕ) (size count : ℕ) → bytes_at file (page_places size pages count) ≡ Ok v → IsPaged file size pages count v
unfolding bytes_at page_places
is_paged file pages v size count h =
    let places = map (λ i. get_or pages (i / size) 0 * size + i % size) (range_with_len 0 count) in
    let e : map (λ at. get_or file at 0) places ≡ v = chosen (list_all (λ at. ltb at (length file)) places) (IoError UnexpectedEof) (map (λ at. get_or file at 0) places) v h in
    let len : length places ≡ count = length-map-range_with_len (λ i. get_or pages (i / size) 0 * size + i % size) 0 count in
    let all : list_all (λ at. ltb at (length file)) places ≡ true = chosen_true (list_all (λ at. ltb at (length file)) places) (IoError UnexpectedEof) (map (λ at. get_or file at 0) places) v h in
    let place : (i : ℕ) → i < count → get_or places i 0 ≡ get_or pages (i / size) 0 * size + i % size = λ i lt. get_or-map-range_with_len (λ k. get_or pages (k / size) 0 * size + k % size) 0 count i i 0 lt (omega arith) in
    record {
      there = λ i lt. rw (← place i lt) (ltb-true (get_or places i 0) (length file) (all_at (λ at. ltb at (length file)) places i all (omega arith)));
      len = ap length (sym e) ∙ length-map places (λ at. get_or file at 0) ∙ len;
      byte = λ i lt. ap (λ (xs : List ℕ). get_or xs i 0) (sym e) ∙ get_or-map (λ at. get_or file at 0) places i (omega arith)
          ∙ ap (λ at. get_or file at 0) (get_or-map-range_with_len (λ k. get_or pages (k / size) 0 * size + k % size) 0 count i i 0 lt (omega arith));
    }

all_from : (test : ℕ → Bool) (xs : List ℕ) → ((i : ℕ) → i < length xs → test (get_or xs i 0) ≡ true) → list_all test xs ≡ true
all_from test [] h = refl
all_from test (x ∷ xs) h = rw (h 0 (omega arith), all_from test xs (λ i lt. h (suc i) (omega arith))) refl

-- bytes of which this is true are what the pages hold
pub from_paged : (file pages v : List ℕ) (size count : ℕ) → IsPaged file size pages count v → bytes_at file (page_places size pages count) ≡ Ok v
unfolding bytes_at page_places
from_paged file pages v size count h =
    let place = λ (i : ℕ). get_or pages (i / size) 0 * size + i % size in
    let places = map place (range_with_len 0 count) in
    let len : length places ≡ count = length-map-range_with_len place 0 count in
    let at : (i : ℕ) → i < count → get_or places i 0 ≡ place i = λ i lt. get_or-map-range_with_len place 0 count i i 0 lt (omega arith) in
    let all : list_all (λ at. ltb at (length file)) places ≡ true = all_from (λ at. ltb at (length file)) places (λ i lt. rw (at i (omega arith)) (lt-ltb (place i) (length file) (h.there i (omega arith)))) in
    let read : map (λ at. get_or file at 0) places ≡ v = ext_get_or 0 (map (λ at. get_or file at 0) places) v (length-map places (λ at. get_or file at 0) ∙ len ∙ sym h.len)
    (λ i lt. let in_count : i < count = omega (arith, length-map places (λ at. get_or file at 0)) in
    get_or-map (λ at. get_or file at 0) places i (omega arith) ∙ ap (λ at. get_or file at 0) (at i in_count) ∙ sym (h.byte i in_count)) in
    rw all (ap (λ (xs : List ℕ). Ok xs) read)

pub bind_ok : {A B : Type 0} (r : Result A Fault) (f : A → Result B Fault) (y : B) → (r >>= f) ≡ Ok y → (x : A) × (r ≡ Ok x) × (f x ≡ Ok y)
bind_ok (Ok x) f y h = (x, refl, h)
bind_ok (Err e) f y h = absurd cc

-- a stream that was read is the file's, byte by byte
pub is_stream : (file : List ℕ) (n : ℕ) (limit : Option ℕ) (bytes : List ℕ) → stream file n limit ≡ Ok bytes → IsStream file n limit bytes
unfolding stream stream_in
is_stream file n limit bytes h =
    let a = bind_ok (layout_of file) (λ l. stream_in l file n limit) bytes h in
    let b = bind_ok (directory_of a.0 file) (λ d. stream_pages_in a.0.page_size a.0.pages_used n d >>= λ found. bytes_at file (page_places a.0.page_size found.1 (at_most limit found.0))) bytes a.2 in
    let c = bind_ok (stream_pages_in a.0.page_size a.0.pages_used n b.0) (λ found. bytes_at file (page_places a.0.page_size found.1 (at_most limit found.0))) bytes b.2 in
    record {
      layout = a.0;
      opens = a.1;
      numbers = b.0;
      directory = b.1;
      found = c.0;
      place = c.1;
      paged = is_paged file c.0.1 bytes a.0.page_size (at_most limit c.0.0) c.2;
    }

-- and bytes of which that is true are the stream
pub from_stream : (file : List ℕ) (n : ℕ) (limit : Option ℕ) (bytes : List ℕ) → IsStream file n limit bytes → stream file n limit ≡ Ok bytes
unfolding stream stream_in
from_stream file n limit bytes s =
    rw (s.opens, s.directory, s.place) (from_paged file s.found.1 bytes s.layout.page_size (at_most limit s.found.0) s.paged)
