-- The file's bytes at places: of a slice, and of slices one after the other.
use Rattle.std.proofs.Common.{◌≡◌, ℕ, zero, suc, ◌+◌, ◌<◌, ◌≤◌, Bool, true, false, cond, ltb, ◌&&◌, List, [], ◌∷◌, ◌++◌, length, get_or, take, drop, Result, Ok, Err, inl, inr, refl, sym, ap, ◌∙◌, append_assoc, arith}
use Rattle.std.specs.Prelude.{map}
use Rattle.std.specs.List.{range_with_len, list_all}
use Rattle.std.specs.declared.io.ErrorKind.TheVariants.{UnexpectedEof}
use Rattle.std.proofs.lemmas.Bool.{lt-ltb, le-ltb, cases_lt, and_parts, false≢true}
use Rattle.std.specs.Result.{is_ok}
use Rattle.std.proofs.lemmas.List.{append-nil, drop_more, drop_all, map-append}
use Rattle.std.proofs.lemmas.List.Folds.{list_all-append}
use Rattle.pdb_container.specs.Fault.{Fault}
use Rattle.pdb_container.specs.Fault.{IoError}
use Rattle.pdb_container.specs.declared.source.SourceSlice.{SourceSlice}
use Rattle.pdb_container.specs.Fault.{◌>>=◌}
use Rattle.pdb_container.specs.Places.{slice_places, places_of, bytes_at}

abbrev below : List ℕ → ℕ → Bool
below file at = ltb at (length file)

abbrev byte : List ℕ → ℕ → ℕ
byte file at = get_or file at 0

-- what is false at the right is false
pub and_false : (b : Bool) → (b && false) ≡ false
and_false true = refl
and_false false = refl

all_below : (file : List ℕ) (a n : ℕ) → a + n ≤ length file → list_all (below file) (range_with_len a n) ≡ true
all_below file a zero h = refl
all_below file a (suc n) h = rw (lt-ltb a (length file) (omega arith), all_below file (a + 1) n (omega arith)) refl

not_all_below : (file : List ℕ) (a n : ℕ) → length file < a + suc n → list_all (below file) (range_with_len a (suc n)) ≡ false
not_all_below file a zero h = rw (le-ltb a (length file) (omega arith)) refl
not_all_below file a (suc n) h = rw (not_all_below file (a + 1) n (omega arith)) (and_false (below file a))

bytes_of_range : (file : List ℕ) (a n : ℕ) → a + n ≤ length file → map (byte file) (range_with_len a n) ≡ take n (drop a file)
bytes_of_range file a zero h = refl
bytes_of_range file a (suc n) h =
    let e = drop_more file a 0 (omega arith) in
    rw (e, bytes_of_range file (a + 1) n (omega arith)) refl

-- no places have no bytes
pub bytes_at_none : (file : List ℕ) (a n : ℕ) → n ≡ 0 → bytes_at file (range_with_len a n) ≡ Ok []
unfolding bytes_at
bytes_at_none file a zero h = refl
bytes_at_none file a (suc n) h = absurd cc

-- places in a row within the file have the file's bytes there
pub bytes_at_range : (file : List ℕ) (a n : ℕ) → a + n ≤ length file → bytes_at file (range_with_len a n) ≡ Ok (take n (drop a file))
unfolding bytes_at
bytes_at_range file a n h = rw (all_below file a n h, bytes_of_range file a n h) refl

-- places in a row that go past the file's end are refused
pub bytes_at_past : (file : List ℕ) (a n : ℕ) → 0 < n → length file < a + n → bytes_at file (range_with_len a n) ≡ Err (IoError UnexpectedEof)
unfolding bytes_at
bytes_at_past file a zero p h = absurd (omega arith)
bytes_at_past file a (suc n) p h = rw (not_all_below file a n h) refl

-- ---- whether slices lie within the file

-- no places are within the file
pub ok_none : (file : List ℕ) (a n : ℕ) → n ≡ 0 → is_ok (bytes_at file (range_with_len a n)) ≡ true
ok_none file a n h = ap is_ok (bytes_at_none file a n h)

-- places in a row up to the file's end are within it
pub ok_range : (file : List ℕ) (a n : ℕ) → a + n ≤ length file → is_ok (bytes_at file (range_with_len a n)) ≡ true
ok_range file a n h = ap is_ok (bytes_at_range file a n h)

-- places in a row past the file's end are not
pub ok_past : (file : List ℕ) (a n : ℕ) → 0 < n → length file < a + n → is_ok (bytes_at file (range_with_len a n)) ≡ false
ok_past file a n p h = ap is_ok (bytes_at_past file a n p h)

-- places in a row that are within the file end at or before its end
pub ok_fits : (file : List ℕ) (a n : ℕ) → is_ok (bytes_at file (range_with_len a n)) ≡ true → 0 < n → a + n ≤ length file
ok_fits file a n h p =
    elim (cases_lt (length file) (a + n)) [
      | inl lt ↦ absurd (false≢true (sym (ok_past file a n p lt) ∙ h))
      | inr le ↦ le
    ]

ended : (b : Bool) (x : List ℕ) (e : Fault) → is_ok (cond b (Ok x) (Err e)) ≡ false → cond b (Ok x) (Err e) ≡ Err e
ended true x e h = absurd (false≢true (sym h))
ended false x e h = refl

-- where they aren't all there, one is missing
pub not_ok_ends : (file places : List ℕ) → is_ok (bytes_at file places) ≡ false → bytes_at file places ≡ Err (IoError UnexpectedEof)
unfolding bytes_at
not_ok_ends file places h = ended (list_all (below file) places) (map (byte file) places) (IoError UnexpectedEof) h

abbrev joined : Result (List ℕ) Fault → Result (List ℕ) Fault → Result (List ℕ) Fault
joined r s = r >>= λ x. s >>= λ y. Ok (x ++ y)

both : (a b : Bool) (x y : List ℕ) (e : Fault) → cond (a && b) (Ok (x ++ y)) (Err e) ≡ joined (cond a (Ok x) (Err e)) (cond b (Ok y) (Err e))
both true true x y e = refl
both true false x y e = refl
both false b x y e = refl

-- the bytes of places, and of others after them, are those of the former and then of the latter
pub bytes_at_append : (file xs ys : List ℕ) → bytes_at file (xs ++ ys) ≡ joined (bytes_at file xs) (bytes_at file ys)
unfolding bytes_at
bytes_at_append file xs ys =
    rw (list_all-append (below file) xs ys, map-append (byte file) xs ys) (both (list_all (below file) xs) (list_all (below file) ys) (map (byte file) xs) (map (byte file) ys) (IoError UnexpectedEof))

-- what was read before, and what is still read
abbrev pub with_front : List ℕ → Result (List ℕ) Fault → Result (List ℕ) Fault
with_front front read = read >>= λ y. Ok (front ++ y)

-- bytes before what is joined may be joined first
pub regroup : (front x : List ℕ) (read : Result (List ℕ) Fault) → with_front front (joined (Ok x) read) ≡ with_front (front ++ x) read
regroup front x (Ok y) = ap (λ (z : List ℕ). Ok z) (sym (append_assoc front x y))
regroup front x (Err e) = refl

slices_more : (file : List ℕ) (slices : List SourceSlice) (i : ℕ) (d : SourceSlice) → i < length slices
    → bytes_at file (places_of (drop i slices)) ≡ joined (bytes_at file (slice_places (get_or slices i d))) (bytes_at file (places_of (drop (i + 1) slices)))
slices_more file slices i d lt =
    rw (drop_more slices i d lt) (bytes_at_append file (slice_places (get_or slices i d)) (places_of (drop (i + 1) slices)))

both_ok : (r s : Result (List ℕ) Fault) → is_ok (joined r s) ≡ (is_ok r && is_ok s)
both_ok (Ok x) (Ok y) = refl
both_ok (Ok x) (Err e) = refl
both_ok (Err e) s = refl

ok_append : (file xs ys : List ℕ) → is_ok (bytes_at file (xs ++ ys)) ≡ (is_ok (bytes_at file xs) && is_ok (bytes_at file ys))
ok_append file xs ys = ap is_ok (bytes_at_append file xs ys) ∙ both_ok (bytes_at file xs) (bytes_at file ys)

one_ok : (file : List ℕ) (slices : List SourceSlice) (i : ℕ) (d : SourceSlice) → i < length slices
    → is_ok (bytes_at file (places_of (drop i slices))) ≡ (is_ok (bytes_at file (slice_places (get_or slices i d))) && is_ok (bytes_at file (places_of (drop (i + 1) slices))))
one_ok file slices i d lt = rw (drop_more slices i d lt) (ok_append file (slice_places (get_or slices i d)) (places_of (drop (i + 1) slices)))

-- one slice more that lies within the file
pub within_more : (file : List ℕ) (slices : List SourceSlice) (i : ℕ) (d : SourceSlice) → i < length slices
    → is_ok (bytes_at file (slice_places (get_or slices i d))) ≡ true
    → is_ok (bytes_at file (places_of (drop i slices))) ≡ is_ok (bytes_at file (places_of slices))
    → is_ok (bytes_at file (places_of (drop (i + 1) slices))) ≡ is_ok (bytes_at file (places_of slices))
within_more file slices i d lt h so_far = sym (one_ok file slices i d lt ∙ ap (λ b. b && is_ok (bytes_at file (places_of (drop (i + 1) slices)))) h) ∙ so_far

-- a slice that doesn't lie within the file
pub within_fail : (file : List ℕ) (slices : List SourceSlice) (i : ℕ) (d : SourceSlice) → i < length slices
    → is_ok (bytes_at file (slice_places (get_or slices i d))) ≡ false
    → is_ok (bytes_at file (places_of (drop i slices))) ≡ is_ok (bytes_at file (places_of slices))
    → bytes_at file (places_of slices) ≡ Err (IoError UnexpectedEof)
within_fail file slices i d lt h so_far =
    not_ok_ends file (places_of slices) (sym so_far ∙ one_ok file slices i d lt ∙ ap (λ b. b && is_ok (bytes_at file (places_of (drop (i + 1) slices)))) h)

-- all slices lie within the file
pub within_done : (file : List ℕ) (slices : List SourceSlice) (i : ℕ) → length slices ≤ i
    → is_ok (bytes_at file (places_of (drop i slices))) ≡ is_ok (bytes_at file (places_of slices))
    → is_ok (bytes_at file (places_of slices)) ≡ true
unfolding bytes_at
within_done file slices i le so_far = sym so_far ∙ rw (drop_all i slices le) refl

-- each slice of those that lie within the file lies within it
pub one_within : (file : List ℕ) (slices : List SourceSlice) (i : ℕ) (d : SourceSlice) → i < length slices
    → is_ok (bytes_at file (places_of slices)) ≡ true
    → is_ok (bytes_at file (slice_places (get_or slices i d))) ≡ true
one_within file [] i d lt h = absurd (omega arith)
one_within file (s ∷ slices) zero d lt h = (and_parts _ _ (sym (ok_append file (slice_places s) (places_of slices)) ∙ h)).0
one_within file (s ∷ slices) (suc i) d lt h =
    one_within file slices i d (omega arith) (and_parts _ _ (sym (ok_append file (slice_places s) (places_of slices)) ∙ h)).1

-- one slice's bytes more after those read before
pub goes_on : (file front part : List ℕ) (slices : List SourceSlice) (i : ℕ) (d : SourceSlice) → i < length slices
    → bytes_at file (slice_places (get_or slices i d)) ≡ Ok part
    → with_front front (bytes_at file (places_of (drop i slices))) ≡ bytes_at file (places_of slices)
    → with_front (front ++ part) (bytes_at file (places_of (drop (i + 1) slices))) ≡ bytes_at file (places_of slices)
goes_on file front part slices i d lt h so_far =
    sym (regroup front part (bytes_at file (places_of (drop (i + 1) slices)))) ∙ sym (rw (slices_more file slices i d lt, h) refl) ∙ so_far

-- all slices' bytes are read
pub is_done : (file front : List ℕ) (slices : List SourceSlice) (i : ℕ) → length slices ≤ i
    → with_front front (bytes_at file (places_of (drop i slices))) ≡ bytes_at file (places_of slices)
    → bytes_at file (places_of slices) ≡ Ok front
unfolding bytes_at
is_done file front slices i le so_far = sym so_far ∙ rw (drop_all i slices le) (ap (λ (z : List ℕ). Ok z) (append-nil front))

-- one slice alone
pub places_of_one : (slices : List SourceSlice) (d : SourceSlice) → length slices ≡ 1 → places_of slices ≡ slice_places (get_or slices 0 d)
places_of_one [] d one = absurd (omega arith)
places_of_one (s ∷ []) d one = append-nil (slice_places s)
places_of_one (s ∷ t ∷ slices) d one = absurd (omega arith)
