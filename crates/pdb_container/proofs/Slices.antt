-- Slices one after another: their places; that none is empty, and none ends where the next begins.
use Rattle.std.proofs.Common.{◌≡◌, ◌≢◌, ℕ, zero, suc, ◌+◌, ◌<◌, ◌≤◌, List, [], ◌∷◌, ◌++◌, length, get_or, set, take, drop, refl, sym, ap, ◌∙◌, append_assoc, arith}
use Rattle.std.specs.List.{range_with_len}
use Rattle.std.proofs.lemmas.List.{append-nil, drop_more, take-append-drop, length-append, take-append-le, set_split, drop_all, take_more, take_more_set, take_at}
use Rattle.std.proofs.lemmas.List.Concat.{flat_map-append}
use Rattle.std.proofs.lemmas.List.FromFn.{length-range_with_len}
use Rattle.std.proofs.Math.Seq.{take-append-add}
use Rattle.pdb_container.specs.declared.source.SourceSlice.{SourceSlice}
use Rattle.pdb_container.specs.Pages.{AreApart}
use Rattle.pdb_container.specs.Places.{slice_places, places_of}

-- ---- ranges

pub range_append : (a m n : ℕ) → range_with_len a (m + n) ≡ range_with_len a m ++ range_with_len (a + m) n
range_append a zero n =
    let e : zero + n ≡ n = omega arith in
    let f : a + zero ≡ a = omega arith in
    rw (e, f) refl
range_append a (suc m) n =
    let e : suc m + n ≡ suc (m + n) = omega arith in
    let f : a + suc m ≡ (a + 1) + m = omega arith in
    rw (e, f) (ap (λ (xs : List ℕ). a ∷ xs) (range_append (a + 1) m n))

pub take_range : (a m n : ℕ) → m ≤ n → take m (range_with_len a n) ≡ range_with_len a m
take_range a zero n h = refl
take_range a (suc m) zero h = absurd (omega arith)
take_range a (suc m) (suc n) h = ap (λ (xs : List ℕ). a ∷ xs) (take_range (a + 1) m n (omega arith))

-- ---- places

places_split : (slices : List SourceSlice) (i : ℕ) → places_of slices ≡ places_of (take i slices) ++ places_of (drop i slices)
places_split slices i = ap places_of (sym (take-append-drop i slices)) ∙ flat_map-append slice_places (take i slices) (drop i slices)

-- one slice has at most as many places as all
pub size_le_len : (slices : List SourceSlice) (i : ℕ) (d : SourceSlice) → i < length slices → (get_or slices i d).size ≤ length (places_of slices)
size_le_len [] i d h = absurd (omega arith)
size_le_len (s ∷ slices) zero d h = omega (arith, length-append (slice_places s) (places_of slices), length-range_with_len s.offset s.size)
size_le_len (s ∷ slices) (suc i) d h = omega (arith, length-append (slice_places s) (places_of slices), size_le_len slices i d (omega arith))

-- the last slice grows by one that begins where it ends
pub places_join : (slices : List SourceSlice) (n : ℕ) (d s : SourceSlice) → n + 1 ≡ length slices → (get_or slices n d).offset + (get_or slices n d).size ≡ s.offset
    → places_of (set slices n (record { offset = (get_or slices n d).offset; size = (get_or slices n d).size + s.size })) ≡ places_of slices ++ slice_places s
places_join [] n d s h e = absurd (omega arith)
places_join (a ∷ []) zero d s h e =
    rw (range_append a.offset a.size s.size, e, append-nil (range_with_len a.offset a.size), append-nil (range_with_len a.offset a.size ++ range_with_len s.offset s.size)) refl
places_join (a ∷ b ∷ slices) zero d s h e = absurd (omega arith)
places_join (a ∷ slices) (suc n) d s h e =
    rw (places_join slices n d s (omega arith) e) (sym (append_assoc (slice_places a) (places_of slices) (slice_places s)))

-- one slice's places more
pub places_push : (slices : List SourceSlice) (s : SourceSlice) → places_of (slices ++ s ∷ []) ≡ places_of slices ++ slice_places s
places_push slices s = flat_map-append slice_places slices (s ∷ []) ∙ ap (λ (xs : List ℕ). places_of slices ++ xs) (append-nil (slice_places s))

-- cut before a slice, or in it
pub places_cut : (slices : List SourceSlice) (i bytes : ℕ) → length (places_of (take i slices)) ≡ bytes → places_of (take i slices) ≡ take bytes (places_of slices)
places_cut slices i bytes e = sym (ap (take bytes) (places_split slices i) ∙ take_at (places_of (take i slices)) (places_of (drop i slices)) bytes e)

-- places that end inside a slice are those of the slices before it and of its prefix
pub places_cut_in : (slices : List SourceSlice) (i left bytes : ℕ) (d : SourceSlice) → i < length slices → left < (get_or slices i d).size → length (places_of (take i slices)) + left ≡ bytes
    → places_of (take (i + 1) (set slices i (record { offset = (get_or slices i d).offset; size = left }))) ≡ take bytes (places_of slices)
places_cut_in slices i left bytes d lt less e =
    let s = get_or slices i d in
    let front = places_of (take i slices) in
    let one : take left (places_of (drop i slices)) ≡ range_with_len s.offset left =
    rw (drop_more slices i d lt, take-append-le left (slice_places s) (places_of (drop (i + 1) slices)) (omega (arith, length-range_with_len s.offset s.size)))
    (take_range s.offset left s.size (omega arith)) in
    let right : take bytes (places_of slices) ≡ front ++ range_with_len s.offset left =
    rw (← e) (ap (take (length front + left)) (places_split slices i) ∙ take-append-add front (places_of (drop i slices)) left ∙ ap (λ (xs : List ℕ). front ++ xs) one) in
    rw (take_more_set slices i (record { offset = s.offset; size = left }) lt) (places_push (take i slices) (record { offset = s.offset; size = left }) ∙ sym right)

-- ---- apart

-- the first slices of some that are apart are apart
pub apart_take : (slices : List SourceSlice) (i : ℕ) → AreApart slices → AreApart (take i slices)
apart_take slices zero h = tt
apart_take [] (suc i) h = tt
apart_take (a ∷ []) (suc zero) h = h
apart_take (a ∷ []) (suc (suc i)) h = h
apart_take (a ∷ b ∷ slices) (suc zero) h = h.0
apart_take (a ∷ b ∷ slices) (suc (suc i)) h = (h.0, h.1, apart_take (b ∷ slices) (suc i) h.2)

pub apart_cut : (slices : List SourceSlice) (i : ℕ) (d s : SourceSlice) → i < length slices → s.offset ≡ (get_or slices i d).offset → 0 < s.size → AreApart slices → AreApart (take i slices ++ s ∷ [])
apart_cut [] i d s lt e full h = absurd (omega arith)
apart_cut (a ∷ slices) zero d s lt e full h = full
apart_cut (a ∷ []) (suc i) d s lt e full h = absurd (omega arith)
apart_cut (a ∷ b ∷ slices) (suc zero) d s lt e full h = (h.0, rw e h.1, full)
apart_cut (a ∷ b ∷ slices) (suc (suc i)) d s lt e full h = (h.0, h.1, apart_cut (b ∷ slices) (suc i) d s (omega arith) e full h.2)

-- a slice that doesn't begin where the last one ends keeps them apart
pub apart_push : (slices : List SourceSlice) (n : ℕ) (d s : SourceSlice) → n + 1 ≡ length slices → ((get_or slices n d).offset + (get_or slices n d).size ≢ s.offset) → 0 < s.size → AreApart slices → AreApart (slices ++ s ∷ [])
apart_push [] n d s e ne full h = full
apart_push (a ∷ []) zero d s e ne full h = (h, ne, full)
apart_push (a ∷ []) (suc n) d s e ne full h = absurd (omega arith)
apart_push (a ∷ b ∷ slices) zero d s e ne full h = absurd (omega arith)
apart_push (a ∷ b ∷ slices) (suc n) d s e ne full h = (h.0, h.1, apart_push (b ∷ slices) n d s (omega arith) ne full h.2)

-- the last slice made longer or shorter keeps them apart
pub apart_set : (slices : List SourceSlice) (n : ℕ) (d s : SourceSlice) → n + 1 ≡ length slices → s.offset ≡ (get_or slices n d).offset → 0 < s.size → AreApart slices → AreApart (set slices n s)
apart_set slices n d s e same full h =
    let nothing : drop (suc n) slices ≡ [] = drop_all (suc n) slices (omega arith) in
    rw (set_split slices n s (omega arith), nothing) (apart_cut slices n d s (omega arith) same full h)

-- slices cut inside one of them stay apart
pub apart_cut_in : (slices : List SourceSlice) (i : ℕ) (d s : SourceSlice) → i < length slices → s.offset ≡ (get_or slices i d).offset → 0 < s.size → AreApart slices → AreApart (take (i + 1) (set slices i s))
apart_cut_in slices i d s lt e full h = rw (take_more_set slices i s lt) (apart_cut slices i d s lt e full h)

-- one slice more has as many places more as its size
pub places_len_more : (slices : List SourceSlice) (i : ℕ) (d : SourceSlice) → i < length slices → length (places_of (take (i + 1) slices)) ≡ length (places_of (take i slices)) + (get_or slices i d).size
places_len_more slices i d lt =
    let s = get_or slices i d in
    rw (take_more slices i d lt, places_push (take i slices) s) (omega (arith, length-append (places_of (take i slices)) (slice_places s), length-range_with_len s.offset s.size))

-- one slice with a byte is apart
pub apart_one : (slices : List SourceSlice) (s : SourceSlice) → length slices ≡ 0 → 0 < s.size → AreApart (slices ++ s ∷ [])
apart_one [] s e full = full
apart_one (a ∷ slices) s e full = absurd (omega arith)

-- so many places in a row make so many places more
pub length_pushed : (xs : List ℕ) (a n : ℕ) → length (xs ++ range_with_len a n) ≡ length xs + n
length_pushed xs a n = omega (arith, length-append xs (range_with_len a n), length-range_with_len a n)
