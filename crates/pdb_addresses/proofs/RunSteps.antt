-- The distance to the next bound of a section, and the places up to it.
use Rattle.std.proofs.Common.{◌≡◌, ℕ, zero, suc, ◌+◌, ◌-◌, ◌<◌, ◌≤◌, min, inl, inr, List, [], ◌∷◌}
use Rattle.std.proofs.Common.{◌++◌, length, get_or, drop, refl, sym, ap, subst, ◌∙◌, append_assoc}
use Rattle.std.proofs.Common.{arith}
use Rattle.std.specs.Prelude.{nat_le}
use Rattle.std.specs.List.{All, AllWithin}
use Rattle.std.specs.List.Sorted.{IsPermutation, IsSorted, IsNonDecreasing}
use Rattle.std.specs.Ordering.{nat_cmp}
use Rattle.std.proofs.lemmas.Bool.{lt-ltb, le-ltb, cases_lt, cases_Bool}
use Rattle.std.proofs.lemmas.List.{append-nil, drop_more, drop_all, get_or_default}
use Rattle.std.proofs.lemmas.List.Sorted.{All-permutation, IsPermutation-sym}
use Rattle.std.proofs.lemmas.List.Sorted.{IsNonDecreasingBy-from_sort}
use Rattle.pdb_addresses.specs.declared.sections.ImageSectionHeader.{ImageSectionHeader}
use Rattle.pdb_addresses.specs.SectionOrder.{end_of, AreInOrder}
use Rattle.pdb_addresses.specs.SectionRun.{bounds, nearer, up_to_next, place_on}
use Rattle.pdb_addresses.specs.Sections.{place_in, place_from}

-- a bound past the address is taken, if it is nearer
pub past : (a b n : ℕ) → a < b → nearer a b n ≡ min n (b - a)
past a b n lt = rw (lt-ltb a b lt) refl

-- a bound at or below the address isn't taken
pub passed : (a b n : ℕ) → b ≤ a → nearer a b n ≡ n
passed a b n le = rw (le-ltb a b le) refl

-- ---- the next of several bounds

pub most : (bs : List ℕ) (a n : ℕ) → up_to_next bs a n ≤ n
most [] a n = omega arith
most (b ∷ bs) a n = let le = most bs a n in elim (cases_lt a b) [
  | inl l ↦ let e = past a b (up_to_next bs a n) l in omega arith
  | inr l ↦ let e = passed a b (up_to_next bs a n) l in omega arith
]

-- no bound past the address is nearer
least : (bs : List ℕ) (a n i d : ℕ) → i < length bs → a < get_or bs i d
    → up_to_next bs a n ≤ get_or bs i d - a
least [] a n i d lt l = absurd (omega arith)
least (b ∷ bs) a n zero d lt l = let e = past a b (up_to_next bs a n) l in omega arith
least (b ∷ bs) a n (suc i) d lt l =
    let le = least bs a n i d (omega arith) l in
    elim (cases_lt a b) [
      | inl m ↦ let e = past a b (up_to_next bs a n) m in omega arith
      | inr m ↦ let e = passed a b (up_to_next bs a n) m in omega arith
    ]

-- and of the numbers of which that holds it is the greatest
greatest : (bs : List ℕ) (a n m : ℕ) → m ≤ n → All (λ b. a < b → m ≤ b - a) bs
    → m ≤ up_to_next bs a n
greatest [] a n m le all = le
greatest (b ∷ bs) a n m le all =
    let rest = greatest bs a n m le (λ i d lt. all (suc i) d (omega arith)) in
    elim (cases_lt a b) [
      | inl l ↦ let one = all 0 b (omega arith) l in let e =
          past a b (up_to_next bs a n) l in omega arith
      | inr l ↦ let e = passed a b (up_to_next bs a n) l in omega arith
    ]

no_nearer : (bs cs : List ℕ) (a n : ℕ) → IsPermutation bs cs → up_to_next bs a n ≤ up_to_next cs a n
no_nearer bs cs a n moved =
    greatest cs a n (up_to_next bs a n) (most bs a n)
    (All-permutation (λ b. a < b → up_to_next bs a n ≤ b - a) bs cs moved
    (λ i d lt l. least bs a n i d lt l))

-- the order of the bounds is nothing to it
pub next_in_order : (bs cs : List ℕ) (a n : ℕ) → AreInOrder bs cs
    → up_to_next cs a n ≡ up_to_next bs a n
next_in_order bs cs a n order =
    let le = no_nearer bs cs a n order.same in
    let ge = no_nearer cs bs a n (IsPermutation-sym bs cs order.same) in
    omega arith

-- no bound lies past the address
pub none_past : (bs : List ℕ) (a n i : ℕ) → length bs ≤ i → AllWithin (λ b. b ≤ a) bs 0 i
    → up_to_next bs a n ≡ n
none_past bs a n i le low =
    let more = greatest bs a n n (omega arith)
    (λ k d lt l. let below = low k d (omega arith) (omega arith) in absurd (omega arith)) in
    let less = most bs a n in
    omega arith

-- where bounds don't fall, the first past the address is the next
pub first_past : (bs : List ℕ) (a n i d : ℕ) → IsNonDecreasing bs → i < length bs
    → d ≡ get_or bs i d → AllWithin (λ b. b ≤ a) bs 0 i → AllWithin (λ b. a < b) bs i (length bs)
    → up_to_next bs a n ≡ nearer a d n
first_past bs a n i d rise lt is low high =
    let l = high i d (omega arith) lt in
    let e = past a d n (omega arith) in
    let far = most bs a n in
    let near = least bs a n i d lt l in
    let all : All (λ b. a < b → min n (get_or bs i d - a) ≤ b - a) bs =
    λ k f m beyond. elim (cases_lt k i) [
      | inl before ↦ let below = low k f (omega arith) before in absurd (omega arith)
      | inr after ↦ let up = rise i k f after m in let same =
          get_or_default bs i d f lt in omega arith
    ] in
    let more = greatest bs a n (min n (get_or bs i d - a)) (omega arith) all in
    omega arith

-- ---- where sections start and end

-- one section more
pub bounds_more : (sections : List ImageSectionHeader) (i : ℕ) (so_far total : List ℕ)
    (d : ImageSectionHeader) → i < length sections
    → so_far ++ bounds (drop i sections) ≡ total
    → so_far ++ (get_or sections i d).virtual_address ∷ [] ++ end_of (get_or sections i d) ∷ []
    ++ bounds (drop (i + 1) sections) ≡ total
bounds_more sections i so_far total d lt is =
    append_assoc (so_far ++ (get_or sections i d).virtual_address ∷ [])
    (end_of (get_or sections i d) ∷ []) (bounds (drop (i + 1) sections))
    ∙ append_assoc so_far ((get_or sections i d).virtual_address ∷ [])
    (end_of (get_or sections i d) ∷ bounds (drop (i + 1) sections))
    ∙ sym (ap (λ (xs : List ImageSectionHeader). so_far ++ bounds xs) (drop_more sections i d lt))
    ∙ is

-- all sections, and the bounds brought into order
pub bounds_done : (sections : List ImageSectionHeader) (i : ℕ) (so_far total ascending : List ℕ)
    → length sections ≤ i → so_far ++ bounds (drop i sections) ≡ total
    → IsPermutation so_far ascending → IsSorted nat_cmp ascending → AreInOrder total ascending
bounds_done sections i so_far total ascending le is moved sorted =
    let all : so_far ≡ total = sym (append-nil so_far)
    ∙ sym (ap (λ (xs : List ImageSectionHeader). so_far ++ bounds xs) (drop_all i sections le))
    ∙ is in
    record {
      same = subst (λ (bs : List ℕ). IsPermutation bs ascending) all moved;
      rise = IsNonDecreasingBy-from_sort (λ b. b) ascending sorted;
    }

-- ---- what holds up to the next bound

below_one : (a b n k : ℕ) → k < nearer a b n → k < n
below_one a b n k lt = elim (cases_lt a b) [
  | inl l ↦ let e = past a b n l in omega arith
  | inr l ↦ let e = passed a b n l in omega arith
]

below_it : (a b n k : ℕ) → a < b → k < nearer a b n → a + k < b
below_it a b n k l lt = let e = past a b n l in omega arith

some_left : (a b n : ℕ) → 1 ≤ n → 1 ≤ nearer a b n
some_left a b n le = elim (cases_lt a b) [
  | inl l ↦ let e = past a b n l in omega arith
  | inr l ↦ let e = passed a b n l in omega arith
]

-- the count is at least 1
pub run_is_some : (bs : List ℕ) (a n : ℕ) → 1 ≤ n → 1 ≤ up_to_next bs a n
run_is_some [] a n le = le
run_is_some (b ∷ bs) a n le = some_left a b (up_to_next bs a n) (run_is_some bs a n le)

in_section : (number offset k : ℕ) → place_in number (offset + k)
    ≡ place_on k (place_in number offset)
in_section number offset k = elim (cases_Bool (nat_le number 65535)) [
  | inl e ↦ rw e refl
  | inr e ↦ rw e refl
]

places_from : (sections : List ImageSectionHeader) (number a n k : ℕ)
    → k < up_to_next (bounds sections) a n → place_from number sections (a + k)
    ≡ place_on k (place_from number sections a)
places_from [] number a n k lt = refl
places_from (s ∷ sections) number a n k lt =
    let start = s.virtual_address in
    let end = s.virtual_address + s.virtual_size in
    let rest = up_to_next (bounds sections) a n in
    let lt' : k < nearer a end rest = below_one a start (nearer a end rest) k lt in
    elim (cases_lt a start) [
      | inl l ↦ let m : a + k < start = below_it a start (nearer a end rest) k l lt in
          rw (lt-ltb a start l, lt-ltb (a + k) start m) refl
      | inr l ↦ elim (cases_lt (a - start) s.virtual_size) [
        | inl m ↦
            let over : a + k < end = below_it a end rest k (omega arith) lt' in
            let away : a + k - start ≡ a - start + k = omega arith in
            rw (
              le-ltb a start l,
              le-ltb (a + k) start (omega arith),
              away,
              lt-ltb (a - start) s.virtual_size m,
              lt-ltb (a - start + k) s.virtual_size (omega arith),
            )
            (in_section number (a - start) k)
        | inr m ↦
            rw (
              le-ltb a start l,
              le-ltb (a + k) start (omega arith),
              le-ltb (a - start) s.virtual_size m,
              le-ltb (a + k - start) s.virtual_size (omega arith),
            )
            (places_from sections (number + 1) a n k (below_one a end rest k lt'))
      ]
    ]

-- over the count the places go on one by one, or are none
pub places_go_on : (sections : List ImageSectionHeader) (a n k : ℕ)
    → k < up_to_next (bounds sections) a n → place_from 1 sections (a + k)
    ≡ place_on k (place_from 1 sections a)
places_go_on sections a n k lt = places_from sections 1 a n k lt
