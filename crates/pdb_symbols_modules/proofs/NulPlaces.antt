-- The places of NULs among names, as a loop lists them and as the end of a name is found among
-- them.
use Rattle.std.proofs.Common.{◌≡◌, ℕ, zero, suc, ◌+◌, ◌-◌, ◌<◌, ◌≤◌, Bool, true, false, cond, not}
use Rattle.std.proofs.Common.{inl, inr, List, [], ◌∷◌, ◌++◌, length, take, drop, get_or, ltb}
use Rattle.std.proofs.Common.{position, Result, Ok, Err, refl, sym, ap, subst, ◌∙◌, arith}
use Rattle.std.specs.Prelude.{◌≢◌, Option, None, Some, option_map, nat_lt, ◌==◌}
use Rattle.std.specs.List.{find, position_or_len, AllWithin}
use Rattle.std.specs.List.Sorted.{IsNonDecreasingBy}
use Rattle.std.proofs.lemmas.Bool.{cases_Bool, cases_lt, le-ltb, lt-ltb, ltb-true, ne_eqb}
use Rattle.std.proofs.lemmas.List.{at_drop_more, append_assoc, append-nil, drop_all, length-drop}
use Rattle.pdb_container.specs.Fault.{Fault, UnexpectedEof, ◌>>=◌}
use Rattle.pdb_container.specs.Fields.{c_string_at, cut_at}
use Rattle.pdb_container.specs.StringTable.{name_in}
use Rattle.pdb_symbols_modules.specs.NameBlock.{nul_places, is_reached}

-- ---- as they are listed

-- one NUL's place more
pub places_more : (bytes front total : List ℕ) (i d : ℕ) → i < length bytes → get_or bytes i d ≡ 0
    → front ++ nul_places i (drop i bytes) ≡ total
    → front ++ i ∷ [] ++ nul_places (i + 1) (drop (i + 1) bytes) ≡ total
unfolding nul_places
places_more bytes front total i d lt nul so_far =
    append_assoc front (i ∷ []) (nul_places (i + 1) (drop (i + 1) bytes))
    ∙ sym (ap (λ xs. front ++ xs) (at_drop_more (nul_places i) bytes i d lt ∙ rw nul refl)) ∙ so_far

-- a byte that is no NUL is passed over
pub places_pass : (bytes front total : List ℕ) (i d : ℕ) → i < length bytes → get_or bytes i d ≢ 0
    → front ++ nul_places i (drop i bytes) ≡ total
    → front ++ nul_places (i + 1) (drop (i + 1) bytes) ≡ total
unfolding nul_places
places_pass bytes front total i d lt other so_far =
    sym
    (ap (λ xs. front ++ xs) (at_drop_more (nul_places i) bytes i d lt
    ∙ rw (ne_eqb (get_or bytes i d) 0 other) refl)) ∙ so_far

abbrev Listed : Type 0
Listed = Result (List ℕ) Fault

abbrev listed : List ℕ → Listed
listed places = Ok places

-- all NULs' places
pub places_done : (bytes front total : List ℕ) (i : ℕ) → length bytes ≤ i
    → front ++ nul_places i (drop i bytes) ≡ total → ◌≡◌ {A = Listed} (Ok total) (Ok front)
unfolding nul_places
places_done bytes front total i past so_far =
    ap listed (sym so_far ∙ ap (λ left. front ++ nul_places i left) (drop_all i bytes past)
    ∙ append-nil front)

-- ---- they ascend

abbrev AllFrom : ℕ → List ℕ → Type 0
AllFrom at xs = (k d : ℕ) → k < length xs → at ≤ get_or xs k d

either : (P : List ℕ → Type 0) (t : Bool) (x : ℕ) (xs : List ℕ) → P (x ∷ xs) → P xs
    → P (cond t (x ∷ xs) xs)
either P true x xs here behind = here
either P false x xs here behind = behind

from_cons : (at : ℕ) (xs : List ℕ) → AllFrom (at + 1) xs → AllFrom at (at ∷ xs)
from_cons at xs behind zero d lt = omega arith
from_cons at xs behind (suc k) d lt = let le = behind k d (omega arith) in omega arith

none_before : (at : ℕ) (bytes : List ℕ) → AllFrom at (nul_places at bytes)
unfolding nul_places
none_before at [] = λ k d lt. absurd (omega arith)
none_before at (b ∷ bytes) =
    let behind = none_before (at + 1) bytes in
    either (AllFrom at) (b == 0) at (nul_places (at + 1) bytes)
    (from_cons at (nul_places (at + 1) bytes) behind)
    (λ k d lt. let le = behind k d lt in omega arith)

rise_cons : (at : ℕ) (xs : List ℕ) → AllFrom (at + 1) xs → IsNonDecreasingBy (λ x. x) xs
    → IsNonDecreasingBy (λ x. x) (at ∷ xs)
rise_cons at xs behind rise zero j d le lt = from_cons at xs behind j d lt
rise_cons at xs behind rise (suc i) zero d le lt = absurd (omega arith)
rise_cons at xs behind rise (suc i) (suc j) d le lt = rise i j d (omega arith) (omega arith)

-- the places of NULs don't fall
pub places_rise : (at : ℕ) (bytes : List ℕ) → IsNonDecreasingBy (λ x. x) (nul_places at bytes)
unfolding nul_places
places_rise at [] = λ i j d le lt. absurd (omega arith)
places_rise at (b ∷ bytes) =
    let rise = places_rise (at + 1) bytes in
    either (IsNonDecreasingBy (λ x. x)) (b == 0) at (nul_places (at + 1) bytes)
    (rise_cons at (nul_places (at + 1) bytes) (none_before (at + 1) bytes) rise) rise

-- ---- the first at or past an offset

-- all of them lie before it
pub none_reached : (o : ℕ) (xs : List ℕ) → AllWithin (λ x. x < o) xs 0 (length xs)
    → find (is_reached o) xs ≡ None
none_reached o [] low = refl
none_reached o (x ∷ xs) low =
    let here = low 0 x (omega arith) (omega arith) in
    rw (lt-ltb x o here)
    (none_reached o xs (λ k d above below. low (suc k) d (omega arith) (omega arith)))

-- that many of them do
pub first_reached : (o : ℕ) (xs : List ℕ) (i d : ℕ) → i < length xs → AllWithin (λ x. x < o) xs 0 i
    → AllWithin (λ x. o ≤ x) xs i (length xs) → find (is_reached o) xs ≡ Some (get_or xs i d)
first_reached o [] i d lt low high = absurd (omega arith)
first_reached o (x ∷ xs) zero d lt low high = let here = high 0 x (omega arith) (omega arith) in
    rw (le-ltb x o here) refl
first_reached o (x ∷ xs) (suc i) d lt low high =
    let here = low 0 x (omega arith) (omega arith) in
    rw (lt-ltb x o here)
    (first_reached o xs i d (omega arith)
    (λ k d above below. low (suc k) d (omega arith) (omega arith))
    (λ k d above below. high (suc k) d (omega arith) (omega arith)))

-- among the places of NULs, by the bytes from the offset on
abbrev is_nul : ℕ → Bool
is_nul byte = byte == 0

abbrev first_of : ℕ → ℕ → ℕ → Option ℕ
first_of at m n = option_map (λ k. at + k) (cond (nat_lt m n) (Some m) None)

one_on : (at m n : ℕ) → first_of (at + 1) m n ≡ first_of at (1 + m) (suc n)
one_on at m n = elim (cases_lt m n) [
  | inl lt ↦ rw (lt-ltb m n lt, lt-ltb (1 + m) (suc n) (omega arith)) (ap Some (omega arith))
  | inr le ↦ rw (le-ltb m n le, le-ltb (1 + m) (suc n) (omega arith)) refl
]

first_place : (o at : ℕ) (bytes : List ℕ) → o ≤ at
    → find (is_reached o) (nul_places at bytes) ≡ option_map (λ k. at + k) (position is_nul bytes)
unfolding nul_places
first_place o at [] le = refl
first_place o at (b ∷ bytes) le =
    let here : find (is_reached o) (at ∷ nul_places (at + 1) bytes)
    ≡ first_of at 0 (suc (length bytes)) =
    rw (le-ltb at o le, lt-ltb 0 (suc (length bytes)) (omega arith)) (ap Some (omega arith)) in
    let behind = first_place o (at + 1) bytes (omega arith)
    ∙ one_on at (position_or_len is_nul bytes) (length bytes) in
    elim (b == 0)
    as (λ t. find (is_reached o)
    (cond t (at ∷ nul_places (at + 1) bytes) (nul_places (at + 1) bytes))
    ≡ first_of at (cond (not t) (1 + position_or_len is_nul bytes) 0) (suc (length bytes)))
    [ true ↦ here | false ↦ behind ]

passed_over : (d at : ℕ) (bytes : List ℕ) → find (is_reached (at + d)) (nul_places at bytes)
    ≡ find (is_reached (at + d)) (nul_places (at + d) (drop d bytes))
unfolding nul_places
passed_over zero at bytes = let e : at + 0 ≡ at = omega arith in rw e refl
passed_over (suc d) at [] = refl
passed_over (suc d) at (b ∷ bytes) =
    let e : at + 1 + d ≡ at + suc d = omega arith in
    let here : find (is_reached (at + suc d)) (at ∷ nul_places (at + 1) bytes)
    ≡ find (is_reached (at + suc d)) (nul_places (at + 1) bytes) =
    rw (lt-ltb at (at + suc d) (omega arith)) refl in
    let behind : find (is_reached (at + suc d)) (nul_places (at + 1) bytes)
    ≡ find (is_reached (at + suc d)) (nul_places (at + suc d) (drop d bytes)) =
    rw (sym e) (passed_over d (at + 1) bytes) in
    elim (b == 0)
    as (λ t. find (is_reached (at + suc d))
    (cond t (at ∷ nul_places (at + 1) bytes) (nul_places (at + 1) bytes))
    ≡ find (is_reached (at + suc d)) (nul_places (at + suc d) (drop d bytes)))
    [ true ↦ here ∙ behind | false ↦ behind ]

next_nul : (o : ℕ) (names : List ℕ) → find (is_reached o) (nul_places 0 names)
    ≡ option_map (λ k. o + k) (position is_nul (drop o names))
next_nul o names =
    let e : 0 + o ≡ o = omega arith in
    let passed : find (is_reached o) (nul_places 0 names)
    ≡ find (is_reached o) (nul_places o (drop o names)) =
    subst (λ n. find (is_reached n) (nul_places 0 names)
    ≡ find (is_reached n) (nul_places n (drop o names))) e (passed_over o 0 names) in
    passed ∙ first_place o o (drop o names) (omega arith)

-- ---- a name

missing_from : (o : ℕ) (p : Option ℕ) → option_map (λ k. o + k) p ≡ None → p ≡ None
missing_from o None h = refl
missing_from o (Some k) h = absurd cc

found_from : (o e : ℕ) (p : Option ℕ) → option_map (λ k. o + k) p ≡ Some e
    → (k : ℕ) × (p ≡ Some k) × (o + k ≡ e)
found_from o e None h = absurd cc
found_from o e (Some k) h = (k, refl, cc)

-- where no NUL stands at an offset or later, there is no name
pub name_missing : (o : ℕ) (names : List ℕ) → find (is_reached o) (nul_places 0 names) ≡ None
    → name_in names o ≡ Err UnexpectedEof
unfolding name_in c_string_at
name_missing o names h =
    rw (missing_from o (position is_nul (drop o names)) (sym (next_nul o names) ∙ h)) refl

-- where one does, the name ends at the first
pub name_found : (o e : ℕ) (names : List ℕ) → find (is_reached o) (nul_places 0 names) ≡ Some e
    → name_in names o ≡ Ok (take (e - o) (drop o names))
unfolding name_in c_string_at
name_found o e names h =
    let found = found_from o e (position is_nul (drop o names)) (sym (next_nul o names) ∙ h) in
    let k : found.0 ≡ e - o = omega (arith, found.2) in
    rw (found.1, k) refl

within : (m n k : ℕ) → cond (nat_lt m n) (Some m) None ≡ Some k → k < n
within m n k h = elim (cases_Bool (nat_lt m n)) [
  | inl e ↦ (let same : m ≡ k = cc in omega (arith, ltb-true m n e))
  | inr e ↦ absurd cc
]

-- that NUL stands at the offset or later, and in the block
pub found_bounds : (o e : ℕ) (names : List ℕ) → find (is_reached o) (nul_places 0 names) ≡ Some e
    → (o ≤ e) × (e < length names)
found_bounds o e names h =
    let found = found_from o e (position is_nul (drop o names)) (sym (next_nul o names) ∙ h) in
    let below = within (position_or_len is_nul (drop o names)) (length (drop o names))
    found.0 found.1 in
    let l = length-drop o names in
    (omega (arith, found.2), omega (arith, found.2, below, l))
