-- Slices of which each has a byte at least, and none ends where the next begins, are the only ones
-- with their places.
use Rattle.std.proofs.Common.{◌≡◌, ◌∙◌, ℕ, zero, suc, ◌+◌, ◌-◌, ◌<◌, List, [], ◌∷◌, ◌++◌, inl, inr, refl, sym, ap, append_assoc, arith}
use Rattle.std.specs.List.{range_with_len}
use Rattle.std.proofs.lemmas.Bool.{cases_lt}
use Rattle.std.proofs.lemmas.List.{append_cancel_left}
use Rattle.pdb_container.specs.declared.source.SourceSlice.{SourceSlice}
use Rattle.pdb_container.specs.Pages.{AreApart}
use Rattle.pdb_container.specs.Places.{slice_places, places_of}
use Rattle.pdb_container.proofs.Slices.{range_append}

first_full : (a : SourceSlice) (slices : List SourceSlice) → AreApart (a ∷ slices) → 0 < a.size
first_full a [] h = h
first_full a (b ∷ slices) h = h.0

rest_apart : (a : SourceSlice) (slices : List SourceSlice) → AreApart (a ∷ slices) → AreApart slices
rest_apart a [] h = tt
rest_apart a (b ∷ slices) h = h.2

-- a range with a number is a list with a head
no_range : (o n : ℕ) (xs : List ℕ) → 0 < n → [] ≡ range_with_len o n ++ xs → ⊥
no_range o zero xs h e = absurd (omega arith)
no_range o (suc n) xs h e = cc

head_at : (o n y : ℕ) (xs ys : List ℕ) → 0 < n → range_with_len o n ++ xs ≡ y ∷ ys → o ≡ y
head_at o zero y xs ys h e = absurd (omega arith)
head_at o (suc n) y xs ys h e = cc

same_start : (o n p m : ℕ) (xs ys : List ℕ) → 0 < n → 0 < m → range_with_len o n ++ xs ≡ range_with_len p m ++ ys → o ≡ p
same_start o n p zero xs ys g h e = absurd (omega arith)
same_start o n p (suc m) xs ys g h e = head_at o n p xs (range_with_len (p + 1) m ++ ys) g e

-- the places after a slice don't go on where it ends
not_on : (a : SourceSlice) (slices : List SourceSlice) (n : ℕ) (ys : List ℕ) → AreApart (a ∷ slices) → places_of slices ≡ range_with_len (a.offset + a.size) (suc n) ++ ys → ⊥
not_on a [] n ys h e = cc
not_on a (b ∷ slices) n ys h e =
    h.1 (sym (head_at b.offset b.size (a.offset + a.size) (places_of slices) (range_with_len (a.offset + a.size + 1) n ++ ys) (first_full b slices h.2) e))

-- so none of two that begin alike, with the same places, is longer
not_longer : (a b : SourceSlice) (others more : List SourceSlice) (n : ℕ) → AreApart (a ∷ others) → a.offset ≡ b.offset → b.size ≡ a.size + suc n → places_of (a ∷ others) ≡ places_of (b ∷ more) → ⊥
not_longer a b others more n h start size e =
    let on = range_with_len (a.offset + a.size) (suc n) in
    let longer : slice_places b ≡ slice_places a ++ on = rw (← start, size) (range_append a.offset a.size (suc n)) in
    let parts : slice_places b ++ places_of more ≡ slice_places a ++ (on ++ places_of more) = rw (longer, append_assoc) refl in
    not_on a others n (places_of more) h (append_cancel_left (slice_places a) (places_of others) (on ++ places_of more) (e ∙ parts))

slice_of : ℕ → ℕ → SourceSlice
slice_of start count = record { offset = start; size = count }

same_slice : (a b : SourceSlice) → a.offset ≡ b.offset → a.size ≡ b.size → a ≡ b
unfolding slice_of
same_slice a b start size = ap (λ (n : ℕ). slice_of n a.size) start ∙ ap (slice_of b.offset) size

pub one_list : (a b : List SourceSlice) → AreApart a → AreApart b → places_of a ≡ places_of b → a ≡ b
one_list [] [] g h e = refl
one_list [] (t ∷ b) g h e = absurd (no_range t.offset t.size (places_of b) (first_full t b h) e)
one_list (s ∷ a) [] g h e = absurd (no_range s.offset s.size (places_of a) (first_full s a g) (sym e))
one_list (s ∷ a) (t ∷ b) g h e =
    let start : s.offset ≡ t.offset = same_start s.offset s.size t.offset t.size (places_of a) (places_of b) (first_full s a g) (first_full t b h) e in
    elim (cases_lt s.size t.size) [
      | inl lt ↦ absurd (not_longer s t a b (t.size - s.size - 1) g start (omega arith) e)
      | inr le ↦ elim (cases_lt t.size s.size) [
        | inl lt ↦ absurd (not_longer t s b a (s.size - t.size - 1) h (sym start) (omega arith) (sym e))
        | inr ge ↦
            let one : s ≡ t = same_slice s t start (omega arith) in
            let parts = rw one at e in
            let rest : places_of a ≡ places_of b = append_cancel_left (slice_places t) (places_of a) (places_of b) parts in
            rw (one, one_list a b (rest_apart s a g) (rest_apart t b h) rest) refl
      ]
    ]
