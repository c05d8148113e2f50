-- Marks of blocks, and the places that lie in them.
use Rattle.std.proofs.Common.{◌≡◌, ◌≢◌, ℕ, zero, suc, ◌+◌, ◌-◌, ◌/◌, ◌≤◌, ◌<◌, inl, inr, Bool, true, false, List, [], ◌∷◌, ◌++◌, length, get_or, set, take, refl, sym, ap, subst, ◌∙◌, arith}
use Rattle.std.specs.List.{All, range_with_len}
use Rattle.std.proofs.lemmas.Bool.{cases_lt}
use Rattle.std.proofs.lemmas.List.{append-nil, take_all, take_more}
use Rattle.std.proofs.lemmas.List.Concat.{flat_map-append}
use Rattle.std.proofs.lemmas.List.Elements.{All-append, All-from_get_or, All-head, All-nil, All-tail, All-weaker}
use Rattle.std.proofs.lemmas.List.FromFn.{get_or-range_with_len, length-range_with_len}
use Rattle.pdb_container.specs.declared.source.SourceSlice.{SourceSlice}
use Rattle.pdb_container.specs.Places.{places_of, slice_places}
use Rattle.pdb_file_views.specs.Blocks.{AreDistinct, AreFree, AreMarked, StayMarked, WereFree}

false≢true : false ≡ true → ⊥
false≢true h = absurd cc

-- a block that is free isn't marked
pub not_both : (marks : List Bool) (b : ℕ) → get_or marks b true ≡ false → get_or marks b false ≡ true → ⊥
not_both [] b free marked = false≢true marked
not_both (m ∷ marks) zero free marked = false≢true (sym free ∙ marked)
not_both (m ∷ marks) (suc b) free marked = not_both marks b free marked

-- a block that is free is one of the file's, and once it is marked it is
pub set_there : (marks : List Bool) (b : ℕ) → get_or marks b true ≡ false → get_or (set marks b true) b false ≡ true
set_there [] b free = absurd (false≢true (sym free))
set_there (m ∷ marks) zero free = refl
set_there (m ∷ marks) (suc b) free = set_there marks b free

pub set_stays : (marks : List Bool) (a b : ℕ) → get_or marks b false ≡ true → get_or (set marks a true) b false ≡ true
set_stays [] a b marked = marked
set_stays (m ∷ marks) zero zero marked = refl
set_stays (m ∷ marks) zero (suc b) marked = marked
set_stays (m ∷ marks) (suc a) zero marked = marked
set_stays (m ∷ marks) (suc a) (suc b) marked = set_stays marks a b marked

-- a block that is free with another one marked was free before
pub free_before : (marks : List Bool) (a b : ℕ) → get_or (set marks a true) b true ≡ false → get_or marks b true ≡ false
free_before [] a b free = free
free_before (m ∷ marks) zero zero free = absurd (false≢true (sym free))
free_before (m ∷ marks) zero (suc b) free = free
free_before (m ∷ marks) (suc a) zero free = free
free_before (m ∷ marks) (suc a) (suc b) free = free_before marks a b free

pub stay_set : (old marks new : List Bool) (b : ℕ) → StayMarked old marks → new ≡ set marks b true → StayMarked old new
stay_set old marks new b stay is block marked = rw is (set_stays marks b block (stay block marked))

pub stay_same : (old marks new : List Bool) → StayMarked old marks → new ≡ marks → StayMarked old new
stay_same old marks new stay is = rw is stay

pub were_set : (old marks new : List Bool) (b : ℕ) → WereFree old marks → new ≡ set marks b true → WereFree old new
were_set old marks new b were is block free = were block (free_before marks b block (subst (λ (m : List Bool). get_or m block true ≡ false) is free))

abbrev pub FreeFrom : List Bool → ℕ → ℕ → Type 0
FreeFrom marks first end = (block : ℕ) → first ≤ block → block < end → get_or marks block true ≡ false

abbrev pub MarkedFrom : List Bool → ℕ → ℕ → Type 0
MarkedFrom marks first end = (block : ℕ) → first ≤ block → block < end → get_or marks block false ≡ true

pub free_more : (old marks : List Bool) (first b : ℕ) → WereFree old marks → get_or marks b true ≡ false → FreeFrom old first b → FreeFrom old first (b + 1)
free_more old marks first b were free so_far block le lt =
    elim (cases_lt block b) [
      | inl h ↦ so_far block le h
      | inr h ↦ subst (λ (k : ℕ). get_or old k true ≡ false) (omega arith) (were b free)
    ]

pub marked_more : (marks new : List Bool) (first b : ℕ) → get_or marks b true ≡ false → new ≡ set marks b true → MarkedFrom marks first b → MarkedFrom new first (b + 1)
marked_more marks new first b free is so_far block le lt =
    elim (cases_lt block b) [
      | inl h ↦ rw is (set_stays marks b block (so_far block le h))
      | inr h ↦ rw is (subst (λ (k : ℕ). get_or (set marks b true) k false ≡ true) (omega arith) (set_there marks b free))
    ]

-- ---- slices

-- the blocks of a slice's places
in_slice : (P : ℕ → Type 0) (offset size : ℕ) → 0 < size → ((block : ℕ) → offset / 512 ≤ block → block < (offset + (size - 1)) / 512 + 1 → P block) → All (λ at. P (at / 512)) (range_with_len offset size)
in_slice P offset size pos each =
    All-from_get_or (λ at. P (at / 512)) (range_with_len offset size) 0
    (λ i lt. let short : i < size = omega (arith, length-range_with_len offset size, lt) in
    rw (get_or-range_with_len offset size i 0 short) (each ((offset + i) / 512) (omega arith) (omega arith)))

pub slice_free : (marks : List Bool) (s : SourceSlice) → 0 < s.size → FreeFrom marks (s.offset / 512) ((s.offset + (s.size - 1)) / 512 + 1) → AreFree marks (slice_places s)
slice_free marks s pos free = in_slice (λ block. get_or marks block true ≡ false) s.offset s.size pos free

pub slice_marked : (marks : List Bool) (s : SourceSlice) → 0 < s.size → MarkedFrom marks (s.offset / 512) ((s.offset + (s.size - 1)) / 512 + 1) → AreMarked marks (slice_places s)
slice_marked marks s pos marked = in_slice (λ block. get_or marks block false ≡ true) s.offset s.size pos marked

pub none_free : (marks : List Bool) (s : SourceSlice) → s.size ≡ 0 → AreFree marks (slice_places s)
none_free marks s none = rw none (All-nil (λ at. get_or marks (at / 512) true ≡ false))

pub none_marked : (marks : List Bool) (s : SourceSlice) → s.size ≡ 0 → AreMarked marks (slice_places s)
none_marked marks s none = rw none (All-nil (λ at. get_or marks (at / 512) false ≡ true))

-- ---- places that are apart

-- places that were marked still are
pub stay_all : (old new : List Bool) (places : List ℕ) → StayMarked old new → AreMarked old places → AreMarked new places
stay_all old new places stay marked = All-weaker (λ at. get_or old (at / 512) false ≡ true) (λ at. get_or new (at / 512) false ≡ true) (λ at h. stay (at / 512) h) places marked

distinct_range : (a n : ℕ) → AreDistinct (range_with_len a n)
distinct_range a zero = tt
distinct_range a (suc n) = (All-from_get_or (λ other. a ≢ other) (range_with_len (a + 1) n) 0 (λ i lt same. let short : i < n = omega (arith, length-range_with_len (a + 1) n, lt) in omega (arith, get_or-range_with_len (a + 1) n i 0 short, same)), distinct_range (a + 1) n)

-- places that were free are none of those that are marked
pub apart : (marks : List Bool) (at other : ℕ) → get_or marks (at / 512) false ≡ true → get_or marks (other / 512) true ≡ false → at ≢ other
apart marks at other marked free same = not_both marks (other / 512) free (subst (λ (k : ℕ). get_or marks (k / 512) false ≡ true) same marked)

distinct_append : (marks : List Bool) (xs ys : List ℕ) → AreMarked marks xs → AreFree marks ys → AreDistinct xs → AreDistinct ys → AreDistinct (xs ++ ys)
distinct_append marks [] ys marked free dx dy = dy
distinct_append marks (x ∷ xs) ys marked free dx dy = (
  All-append (λ other. x ≢ other) xs ys dx.0 (All-weaker (λ at. get_or marks (at / 512) true ≡ false) (λ other. x ≢ other) (λ other f. apart marks x other (All-head (λ at. get_or marks (at / 512) false ≡ true) x xs marked) f) ys free),
  distinct_append marks xs ys (All-tail (λ at. get_or marks (at / 512) false ≡ true) x xs marked) free dx.1 dy,
)

places_more : (slices : List SourceSlice) (i : ℕ) (d : SourceSlice) → i < length slices → places_of (take (i + 1) slices) ≡ places_of (take i slices) ++ slice_places (get_or slices i d)
places_more slices i d lt = ap places_of (take_more slices i d lt) ∙ flat_map-append slice_places (take i slices) (get_or slices i d ∷ []) ∙ ap (λ (ps : List ℕ). places_of (take i slices) ++ ps) (append-nil (slice_places (get_or slices i d)))

pub slices_free : (old marks : List Bool) (slices : List SourceSlice) (i : ℕ) (d : SourceSlice) → i < length slices → WereFree old marks → AreFree marks (slice_places (get_or slices i d)) → AreFree old (places_of (take i slices)) → AreFree old (places_of (take (i + 1) slices))
slices_free old marks slices i d lt were free so_far =
    rw (places_more slices i d lt) (All-append (λ at. get_or old (at / 512) true ≡ false) (places_of (take i slices)) (slice_places (get_or slices i d)) so_far (All-weaker (λ at. get_or marks (at / 512) true ≡ false) (λ at. get_or old (at / 512) true ≡ false) (λ at h. were (at / 512) h) (slice_places (get_or slices i d)) free))

pub slices_marked : (marks new : List Bool) (slices : List SourceSlice) (i : ℕ) (d : SourceSlice) → i < length slices → StayMarked marks new → AreMarked new (slice_places (get_or slices i d)) → AreMarked marks (places_of (take i slices)) → AreMarked new (places_of (take (i + 1) slices))
slices_marked marks new slices i d lt stay marked so_far =
    rw (places_more slices i d lt) (All-append (λ at. get_or new (at / 512) false ≡ true) (places_of (take i slices)) (slice_places (get_or slices i d)) (stay_all marks new (places_of (take i slices)) stay so_far) marked)

pub slices_distinct : (marks : List Bool) (slices : List SourceSlice) (i : ℕ) (d : SourceSlice) → i < length slices → AreFree marks (slice_places (get_or slices i d)) → AreMarked marks (places_of (take i slices)) → AreDistinct (places_of (take i slices)) → AreDistinct (places_of (take (i + 1) slices))
slices_distinct marks slices i d lt free marked so_far =
    rw (places_more slices i d lt) (distinct_append marks (places_of (take i slices)) (slice_places (get_or slices i d)) marked free so_far (distinct_range (get_or slices i d).offset (get_or slices i d).size))

pub slices_all : (P : List ℕ → Type 0) (slices : List SourceSlice) (i : ℕ) → length slices ≤ i → P (places_of (take i slices)) → P (places_of slices)
slices_all P slices i le h = subst (λ (xs : List SourceSlice). P (places_of xs)) (take_all i slices le) h

pub stay_on : (old marks new : List Bool) → StayMarked old marks → StayMarked marks new → StayMarked old new
stay_on old marks new a b block h = b block (a block h)

pub were_on : (old marks new : List Bool) → WereFree old marks → WereFree marks new → WereFree old new
were_on old marks new a b block h = a block (b block h)
