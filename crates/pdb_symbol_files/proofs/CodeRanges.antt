-- Ranges of the addresses at which code may run.
use Rattle.std.proofs.Common.{◌≡◌, ℕ, ◌+◌, ◌-◌, ◌<◌, ◌≤◌, List, [], ◌∷◌, ◌++◌, Bool, true, false}
use Rattle.std.proofs.Common.{refl, sym, ◌∙◌, ap, arith, ◌^◌, length, max, min, ◌&&◌, ◌||◌, get_or, take}
use Rattle.std.proofs.Common.{leb}
use Rattle.std.specs.List.Sorted.{IsNonDecreasingBy}
use Rattle.std.specs.Prelude.{Option, nat_le, nat_lt}
use Rattle.std.proofs.lemmas.List.Folds.{list_any-append, list_any_more}
use Rattle.std.proofs.lemmas.List.{append-nil, take_more}
use Rattle.std.proofs.lemmas.Grind.{flat_map-append}
use Rattle.std.proofs.lemmas.Bool.{le-leb, leb-true, leb-false, lt-leb, lt-ltb, le-ltb, ltb-true, and_from, and_parts}
use Rattle.std.proofs.Math.Bool.{and-false, or-false, or-true}
use Rattle.pdb_symbol_files.specs.Told.{Answer, Told}
use Rattle.pdb_symbol_files.specs.declared.addresses.AddressRange.{AddressRange}
use Rattle.pdb_symbol_files.specs.Code.{AreAscending, answers_along, answers_among, in_ranges}
use Rattle.pdb_symbol_files.specs.Code.{answers_of_code, HoldsCode, is_code, is_in, is_within}
use Rattle.pdb_symbol_files.specs.Code.{start_of}
use Rattle.pdb_addresses.specs.declared.sections.ImageSectionHeader.{ImageSectionHeader}
use Rattle.pdb_addresses.specs.Sections.{may_execute}
use Rattle.pdb_symbol_files.specs.ToldRanges.{answers_of_ranges}
use Rattle.pdb_symbol_files.proofs.ToldAlong.{among_append, among_none, among_same}

-- ---- one range

within_before : (r : AddressRange) (x : ℕ) → x < r.start → is_within x r ≡ false
within_before r x lt = ap (λ (b : Bool). b && nat_lt x r.end) (lt-leb r.start x lt)

within_after : (r : AddressRange) (x : ℕ) → r.end ≤ x → is_within x r ≡ false
within_after r x le =
    ap (λ (b : Bool). nat_le r.start x && b) (le-ltb x r.end le) ∙ and-false (nat_le r.start x)

pub within_there : (r : AddressRange) (x : ℕ) → r.start ≤ x → x < r.end → is_within x r ≡ true
within_there r x le lt = and_from (nat_le r.start x) (nat_lt x r.end) (le-leb r.start x le) (lt-ltb x r.end lt)

-- ---- ranges in ascending order

-- an address before them lies in none of them
not_before : (ranges : List AddressRange) (from x : ℕ) → AreAscending from ranges → x < from
    → in_ranges ranges x ≡ false
not_before [] from x are lt = refl
not_before (r ∷ ranges) from x (low, some, rest) lt =
    ap (λ (b : Bool). b || in_ranges ranges x) (within_before r x (omega arith))
    ∙ not_before ranges r.end x rest (omega arith)

-- what is told of the addresses that lie in them is told of them in their order
pub ranges_told : (told : ℕ → Option Told) (ranges : List AddressRange) (from count : ℕ)
    → AreAscending from ranges → ((x : ℕ) → in_ranges ranges x ≡ true → x < from + count)
    → answers_among (in_ranges ranges) told from count ≡ answers_of_ranges told ranges
ranges_told told [] from count are below = among_none told count from
ranges_told told (r ∷ ranges) from count (low, some, rest) below =
    let test : ℕ → Bool = in_ranges (r ∷ ranges) in
    let last : r.end - 1 < from + count = below (r.end - 1)
    (ap (λ (b : Bool). b || in_ranges ranges (r.end - 1))
    (within_there r (r.end - 1) (omega arith) (omega arith))) in
    let first : answers_among test told from (r.start - from) ≡ [] =
    among_same told test (λ _. false) (r.start - from) from
    (λ x le lt. ap (λ (b : Bool). b || in_ranges ranges x) (within_before r x (omega arith))
    ∙ not_before ranges r.end x rest (omega arith))
    ∙ among_none told (r.start - from) from in
    let here : answers_among test told r.start (r.end - r.start)
    ≡ answers_along told r.start (r.end - r.start) =
    among_same told test (λ _. true) (r.end - r.start) r.start
    (λ x le lt. ap (λ (b : Bool). b || in_ranges ranges x)
    (within_there r x le (omega (arith, lt)))) in
    let after : answers_among test told r.end (from + count - r.end)
    ≡ answers_among (in_ranges ranges) told r.end (from + count - r.end) =
    among_same told test (in_ranges ranges) (from + count - r.end) r.end
    (λ x le lt. ap (λ (b : Bool). b || in_ranges ranges x) (within_after r x le)) in
    let more : answers_among (in_ranges ranges) told r.end (from + count - r.end)
    ≡ answers_of_ranges told ranges =
    ranges_told told ranges r.end (from + count - r.end) rest
    (λ x h. let b : x < from + count = below x
    (ap (λ (q : Bool). is_within x r || q) h ∙ or-true (is_within x r)) in omega arith) in
    among_append told test (r.start - from) (from + count - r.start) count from r.start
    (omega arith) (omega arith)
    ∙ ap (λ (xs : List Answer). xs ++ answers_among test told r.start (from + count - r.start)) first
    ∙ among_append told test (r.end - r.start) (from + count - r.end) (from + count - r.start)
    r.start r.end (omega arith) (omega arith)
    ∙ ap (λ (xs : List Answer). xs ++ answers_among test told r.end (from + count - r.end)) here
    ∙ ap (λ (xs : List Answer). answers_along told r.start (r.end - r.start) ++ xs) (after ∙ more)

-- ---- the order of ranges, one after the other

-- ranges in ascending order from one address to another
abbrev pub AreBetween : ℕ → List AddressRange → ℕ → Type 0
AreBetween from [] to = from ≤ to
AreBetween from (r ∷ ranges) to =
    (from ≤ r.start) × (r.start < r.end) × AreBetween r.end ranges to

pub between_ascending : (ranges : List AddressRange) (from to : ℕ) → AreBetween from ranges to
    → AreAscending from ranges
between_ascending [] from to are = tt
between_ascending (r ∷ ranges) from to (low, some, rest) =
    (low, some, between_ascending ranges r.end to rest)

-- one range more
pub between_more : (ranges : List AddressRange) (r : AddressRange) (from to : ℕ)
    → AreBetween from ranges to → to ≤ r.start → r.start < r.end
    → AreBetween from (ranges ++ r ∷ []) r.end
between_more [] r from to are low some = (omega arith, some, omega arith)
between_more (q ∷ ranges) r from to (first, has, rest) low some =
    (first, has, between_more ranges r q.end to rest low some)

-- ---- a range, from where others end on

done_le : (b : Bool) (a done : ℕ) → leb done a ≡ b → (a < done → ⊥) → done ≤ a
done_le true a done e not = leb-true done a e
done_le false a done e not = absurd (not (leb-false done a e))

le_by : (b : Bool) (a s t : ℕ) → leb s a ≡ b → (s ≤ a → t ≤ a) → s ≤ t → leb t a ≡ leb s a
le_by true a s t e le low = le-leb t a (le (leb-true s a e)) ∙ sym e
le_by false a s t e le low =
    let after : a < s = leb-false s a e in lt-leb t a (omega arith) ∙ sym e

-- it adds what it does from its own start on, if the others have all between that and their end
cut_same : (m : Bool) (a s t e done : ℕ) → t ≡ max s done
    → (s ≤ a → a < done → m ≡ true)
    → (m || (nat_le t a && nat_lt a e)) ≡ (m || (nat_le s a && nat_lt a e))
cut_same true a s t e done is covered = refl
cut_same false a s t e done is covered =
    ap (λ (b : Bool). b && nat_lt a e) (le_by (leb s a) a s t refl
    (λ (le : s ≤ a). let past : done ≤ a = done_le (leb done a) a done refl
    (λ (lt : a < done). let bad : false ≡ true = covered le lt in let no : ⊥ = cc in no) in
    omega arith) (omega arith))

empty_by : (b : Bool) (a s e : ℕ) → leb s a ≡ b → e ≤ s → (nat_le s a && nat_lt a e) ≡ false
empty_by true a s e h le =
    let low = leb-true s a h in
    ap (λ (b : Bool). nat_le s a && b) (le-ltb a e (omega arith)) ∙ and-false (nat_le s a)
empty_by false a s e h le = ap (λ (b : Bool). b && nat_lt a e) h

either_true : (b m : Bool) (a s e done : ℕ) → leb done a ≡ b → a < e → (done ≤ a → s ≤ a)
    → (a < done → m ≡ true) → (m || (nat_le s a && nat_lt a e)) ≡ true
either_true true m a s e done h below past before =
    ap (λ (b : Bool). m || b) (and_from (nat_le s a) (nat_lt a e)
    (le-leb s a (past (leb-true done a h))) (lt-ltb a e below)) ∙ or-true m
either_true false m a s e done h below past before =
    ap (λ (b : Bool). b || (nat_le s a && nat_lt a e)) (before (leb-false done a h))

empty : (a s e : ℕ) → e ≤ s → (nat_le s a && nat_lt a e) ≡ false
empty a s e le = empty_by (leb s a) a s e refl le

-- the ranges so far have the addresses of those that were seen, and all between the start of the
-- next one and `done`
pub record IsCut (d : AddressRange) (ranges made : List AddressRange) (i done : ℕ) : Type 0 where
  pub between : AreBetween 0 made done
  pub same : (a : ℕ) → in_ranges made a ≡ in_ranges (take i ranges) a
  pub covered : (a : ℕ) → i < length ranges → (get_or ranges i d).start ≤ a
      → a < done → in_ranges made a ≡ true

made_range : ℕ → ℕ → AddressRange
made_range start end = record { start = start; end = end }

with_range : (made : List AddressRange) (a s e : ℕ)
    → in_ranges (made ++ record { start = s; end = e } ∷ []) a
    ≡ (in_ranges made a || (nat_le s a && nat_lt a e))
with_range made a s e =
    list_any-append (is_within a) made (record { start = s; end = e } ∷ [])
    ∙ ap (λ (b : Bool). in_ranges made a || b) (or-false (nat_le s a && nat_lt a e))

-- the addresses of the ranges so far, with those of the next one past them
cut_more : (ranges made : List AddressRange) (i done start : ℕ) (d : AddressRange)
    → i < length ranges → start ≡ max (get_or ranges i d).start done → IsCut d ranges made i done
    → (a : ℕ) → (in_ranges made a || (nat_le start a && nat_lt a (get_or ranges i d).end))
    ≡ in_ranges (take (i + 1) ranges) a
cut_more ranges made i done start d lt is cut a =
    let r = get_or ranges i d in
    cut_same (in_ranges made a) a r.start start r.end done is (λ le below. cut.covered a lt le below)
    ∙ ap (λ (b : Bool). b || is_within a r) (cut.same a)
    ∙ sym (list_any_more (is_within a) ranges i d lt)

next_start : (ranges : List AddressRange) (i : ℕ) (d : AddressRange)
    → IsNonDecreasingBy start_of ranges → i + 1 < length ranges
    → (get_or ranges i d).start ≤ (get_or ranges (i + 1) d).start
next_start ranges i d sorted lt = sorted i (i + 1) d (omega arith) lt

-- ranges that have nothing past the others
pub cut_none : (ranges made : List AddressRange) (i done start : ℕ) (d : AddressRange)
    → IsNonDecreasingBy start_of ranges → i < length ranges
    → start ≡ max (get_or ranges i d).start done → (get_or ranges i d).end ≤ start
    → IsCut d ranges made i done → IsCut d ranges made (i + 1) done
cut_none ranges made i done start d sorted lt is le cut = record {
  between = cut.between;
  same = λ a. sym (or-false (in_ranges made a))
      ∙ ap (λ (b : Bool). in_ranges made a || b) (sym (empty a start (get_or ranges i d).end le))
      ∙ cut_more ranges made i done start d lt is cut a;
  covered = λ a more from below.
      let low = next_start ranges i d sorted more in
      cut.covered a lt (omega (arith, low, from)) below;
}

-- a range that has more
pub cut_some : (ranges made : List AddressRange) (i done start : ℕ) (d : AddressRange)
    → IsNonDecreasingBy start_of ranges → i < length ranges
    → start ≡ max (get_or ranges i d).start done → start < (get_or ranges i d).end
    → IsCut d ranges made i done
    → IsCut d ranges (made ++ record { start = start; end = (get_or ranges i d).end } ∷ []) (i + 1)
    (get_or ranges i d).end
cut_some ranges made i done start d sorted lt is some cut =
    let end = (get_or ranges i d).end in
    record {
      between = between_more made (record { start = start; end = end }) 0 done cut.between
          (omega arith) some;
      same = λ a. with_range made a start end ∙ cut_more ranges made i done start d lt is cut a;
      covered = λ a more from below.
          let low = next_start ranges i d sorted more in
          with_range made a start end
          ∙ either_true (leb done a) (in_ranges made a) a start end done refl below
          (λ past. omega (arith, low, from, past))
          (λ before. cut.covered a lt (omega (arith, low, from)) before);
    }

-- what is told of one range more
pub ranges_more : (told : ℕ → Option Told) (ranges : List AddressRange) (i : ℕ) (d : AddressRange)
    → i < length ranges
    → answers_of_ranges told (take (i + 1) ranges)
    ≡ answers_of_ranges told (take i ranges)
    ++ answers_along told (get_or ranges i d).start
    ((get_or ranges i d).end - (get_or ranges i d).start)
ranges_more told ranges i d lt =
    let along = λ (r : AddressRange). answers_along told r.start (r.end - r.start) in
    ap (answers_of_ranges told) (take_more ranges i d lt)
    ∙ flat_map-append along (take i ranges) (get_or ranges i d ∷ [])
    ∙ ap (λ (xs : List Answer). answers_of_ranges told (take i ranges) ++ xs)
    (append-nil (along (get_or ranges i d)))

-- ---- the addresses at which code may run

code_by : (b c : Bool) (x top : ℕ) → (b ≡ true → x < top) → (c ≡ true → x < top)
    → (b || c) ≡ true → x < top
code_by true c x top h k e = h refl
code_by false c x top h k e = k e

-- they are below 2^32 - 1
pub code_below : (sections : List ImageSectionHeader) (x : ℕ) → is_code sections x ≡ true
    → x < 2 ^ 32 - 1
code_below [] x e = let bad : ⊥ = cc in absurd bad
code_below (s ∷ sections) x e =
    code_by (may_execute s.characteristics && is_in s x) (is_code sections x) x (2 ^ 32 - 1)
    (λ one. let within : x < min (s.virtual_address + s.virtual_size) (2 ^ 32 - 1) =
    ltb-true x (min (s.virtual_address + s.virtual_size) (2 ^ 32 - 1))
    (and_parts (nat_le s.virtual_address x)
    (nat_lt x (min (s.virtual_address + s.virtual_size) (2 ^ 32 - 1)))
    (and_parts (may_execute s.characteristics) (is_in s x) one).1).1 in omega (arith, within))
    (λ others. code_below sections x others) e

-- what is told of ranges that hold them is told of them
pub code_told : (told : ℕ → Option Told) (ranges : List AddressRange)
    (sections : List ImageSectionHeader) → AreAscending 0 ranges → HoldsCode ranges sections
    → answers_of_ranges told ranges ≡ answers_of_code sections told
unfolding answers_of_code
code_told told ranges sections are holds =
    sym (ranges_told told ranges 0 (2 ^ 32 - 1) are
    (λ x h. let below : x < 2 ^ 32 - 1 = code_below sections x (sym (holds x) ∙ h) in below))
    ∙ among_same told (in_ranges ranges) (is_code sections) (2 ^ 32 - 1) 0 (λ x from below. holds x)
