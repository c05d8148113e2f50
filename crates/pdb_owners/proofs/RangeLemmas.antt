-- Counting over the ranges that a range becomes is counting address by address.
use Rattle.std.proofs.Common.{◌≡◌, ◌≢◌, ℕ, zero, suc, ◌+◌, ◌-◌, ◌^◌, ◌<◌, ◌≤◌, inl, inr, Bool, true, false, cond, ltb, List, [], ◌∷◌, ◌++◌, map, refl, sym, ap, ◌∙◌, subst, arith}
use Rattle.std.specs.Prelude.{Option, None, Some, option_and_then, is_some, ◌==◌}
use Rattle.std.specs.List.{range_with_len}
use Rattle.std.specs.declared.ops.Range.{Range}
use Rattle.std.proofs.lemmas.Bool.{lt-ltb, le-ltb, eq-eqb, ne_eqb, cases_lt}
use Rattle.pdb_addresses.specs.declared.internal_rva.PdbInternalRva.{PdbInternalRva}
use Rattle.pdb_addresses.specs.declared.sections.ImageSectionHeader.{ImageSectionHeader}
use Rattle.pdb_addresses.specs.declared.omap.OMAPRecord.{OMAPRecord}
use Rattle.pdb_addresses.specs.Addresses.{Map, inner}
use Rattle.pdb_addresses.specs.PartedRuns.{laid_out, one_by_one, each_for_itself, with_first}
use Rattle.pdb_addresses.specs.Numbers.{in_32_bits}
use Rattle.pdb_addresses.specs.Omap.{translated, sent_by, record_at, last_number}
use Rattle.pdb_addresses.specs.Ranges.{TranslatedRun, below, kept, runs, internal_range, internal_ranges}
use Rattle.pdb_addresses.specs.Sections.{place}
use Rattle.pdb_owners.specs.Counts.{how_many, in_ranges, count, count_of_none, pieces, counted_at, is_last, answer_at, begins}
use Rattle.std.specs.declared.cmp.Ordering.{Ordering}
use Rattle.std.specs.Cmp.{IsTotalOrder}
use Rattle.std.specs.declared.cmp.Ordering.TheVariants.{Equal}
use Rattle.pdb_owners.specs.Answers.{is_same, picked}
use Rattle.pdb_owners.specs.Databases.{Database}
use Rattle.pdb_owners.specs.Table.{IsCounted, IsResolved, IsTable, IsWithin, count_in, sum_of, sum_found}
use Rattle.pdb_owners.proofs.CountLemmas.{sum_all, picked_any}
use Rattle.pdb_owners.proofs.TableLemmas.{count_is_sum}
use Rattle.pdb_owners.proofs.HowMany.{how_many-along, how_many-same, how_many-most, how_many-not}

-- ---- numbers in a list

how_many_of : (ℕ → Bool) → List ℕ → ℕ
how_many_of test [] = 0
how_many_of test (x ∷ xs) = cond (test x) 1 0 + how_many_of test xs

of_append : (test : ℕ → Bool) (xs ys : List ℕ) → how_many_of test (xs ++ ys) ≡ how_many_of test xs + how_many_of test ys
unfolding how_many_of
of_append test [] ys = omega arith
of_append test (x ∷ xs) ys = let h = of_append test xs ys in omega (arith, h)

of_range : (test : ℕ → Bool) (n a : ℕ) → how_many_of test (range_with_len a n) ≡ how_many test a n
unfolding how_many_of how_many
of_range test zero a = refl
of_range test (suc n) a = ap (λ (m : ℕ). cond (test a) 1 0 + m) (of_range test n (a + 1))

of_runs : (test : ℕ → Bool) (rs : List TranslatedRun) → in_ranges (λ _ x. test x) (map internal_range rs) ≡ how_many_of test (laid_out rs)
unfolding how_many_of
of_runs test [] = refl
of_runs test (r ∷ rs) =
    let e = of_append test (range_with_len r.start (r.end - r.start)) (laid_out rs) in
    let f = of_range test (r.end - r.start) r.start in
    let g = of_runs test rs in
    omega (arith, e, f, g)

-- whether an address became a number that passes
passes : (ℕ → Bool) → Option ℕ → Bool
passes test None = false
passes test (Some x) = test x

of_first : (test : ℕ → Bool) (o : Option ℕ) (xs : List ℕ) → how_many_of test (with_first o xs) ≡ cond (passes test o) 1 0 + how_many_of test xs
unfolding how_many_of passes
of_first test None xs = omega arith
of_first test (Some x) xs = refl

of_each : (test : ℕ → Bool) (becomes : ℕ → Option ℕ) (n a : ℕ) → how_many_of test (each_for_itself becomes a n) ≡ how_many (λ x. passes test (becomes x)) a n
unfolding how_many_of how_many each_for_itself
of_each test becomes zero a = refl
of_each test becomes (suc n) a = of_first test (becomes a) (each_for_itself becomes (a + 1) n) ∙ ap (λ (m : ℕ). cond (passes test (becomes a)) 1 0 + m) (of_each test becomes n (a + 1))

-- ---- what addresses become

-- numbers that addresses below 2^32 become lie below it
AreLow : Option ℕ → Type 0
AreLow None = Unit {0}
AreLow (Some x) = x < 2 ^ 32

low_32 : (n : ℕ) → AreLow (in_32_bits n)
unfolding AreLow
low_32 n = elim (cases_lt n (2 ^ 32)) [
  | inl low ↦ rw (lt-ltb n (2 ^ 32) low) low
  | inr high ↦ rw (le-ltb n (2 ^ 32) high) tt
]

low_sent : (b : Bool) (n : ℕ) → AreLow (cond b None (in_32_bits n))
unfolding AreLow
low_sent true n = tt
low_sent false n = low_32 n

low_by : (a : ℕ) (o : Option OMAPRecord) → AreLow (option_and_then (sent_by a) o)
unfolding AreLow
low_by a None = tt
low_by a (Some r) = low_sent (r.target_address == 0) (r.target_address + (a - r.source_address))

low_inner : (omap : Option (List OMAPRecord)) (a : ℕ) → a < 2 ^ 32 → AreLow (translated omap a)
unfolding AreLow
low_inner None a low = low
low_inner (Some records) a low = low_by a (record_at records (last_number records a))

low_as : {A : Type 0} (top x : ℕ) (test : ℕ → Bool) (picks : Option A → Bool) (answer : Option A) → picks None ≡ false → x ≤ top → test x ≡ picks answer
    → passes test (cond (ltb x top) (Some x) None) ≡ picks (cond (x == top) None answer)
unfolding passes
low_as top x test picks answer none low same = elim (cases_lt x top) [
  | inl less ↦
      let other : x ≢ top = omega arith in
      rw (lt-ltb x top less, ne_eqb x top other) same
  | inr last ↦
      let it : x ≡ top = omega arith in
      rw (le-ltb x top last, eq-eqb x top it) (sym none)
]

counted_as : {A : Type 0} (sections : List ImageSectionHeader) (db : Database A) (picks : Option A → Bool) (o : Option ℕ) → picks None ≡ false → AreLow o
    → passes (λ x. picks (answer_at sections db x)) (option_and_then (below (2 ^ 32 - 1)) o) ≡ picks (cond (is_last o) None (option_and_then db.answer (option_and_then (place sections) o)))
unfolding passes AreLow
counted_as sections db picks None none low = sym none
counted_as sections db picks (Some x) none low = low_as (2 ^ 32 - 1) x (λ y. picks (answer_at sections db y)) picks (answer_at sections db x) none (omega arith) refl

-- ---- a range

-- Addresses of answers of some kind, none of it no answer at all: over the ranges that a range
-- becomes, and one by one.
pub ranges_one_by_one : {A : Type 0} (laid : (omap : Option (List OMAPRecord)) (start end : ℕ) → laid_out (runs omap start end) ≡ one_by_one omap start end)
    → (m : Map) (db : Database A) (picks : Option A → Bool) (s e : ℕ) → picks None ≡ false → e ≤ 2 ^ 32
    → in_ranges (λ _ x. picks (answer_at m.internal db x)) (internal_ranges m.to_internal s e) ≡ how_many (λ a. picks (counted_at m db a)) s (e - s)
ranges_one_by_one laid m db picks s e none low =
    of_runs (λ x. picks (answer_at m.internal db x)) (runs m.to_internal s e)
    ∙ ap (how_many_of (λ x. picks (answer_at m.internal db x))) (laid m.to_internal s e)
    ∙ of_each (λ x. picks (answer_at m.internal db x)) (kept m.to_internal) (e - s) s
    ∙ how_many-along (λ a. passes (λ x. picks (answer_at m.internal db x)) (kept m.to_internal a)) (λ a. picks (counted_at m db a)) (e - s) s s
    (λ k lt. counted_as m.internal db picks (inner m (s + k)) none (low_inner m.to_internal (s + k) (omega arith)))

-- the ranges that a range becomes have no more addresses than it has
all_addresses : (laid : (omap : Option (List OMAPRecord)) (start end : ℕ) → laid_out (runs omap start end) ≡ one_by_one omap start end)
    → (m : Map) (s e : ℕ) → in_ranges (λ _ _. true) (internal_ranges m.to_internal s e) ≤ e - s
all_addresses laid m s e =
    let a = of_runs (λ _. true) (runs m.to_internal s e) ∙ ap (how_many_of (λ _. true)) (laid m.to_internal s e) ∙ of_each (λ _. true) (kept m.to_internal) (e - s) s in
    let b = how_many-most (λ x. passes (λ _. true) (kept m.to_internal x)) (e - s) s in
    omega (arith, a, b)

module _ {K A : Type 0} (found : K → Option A) where
  -- what is counted so far and what is left of the ranges are the whole
  pub record IsSoFar (sections : List ImageSectionHeader) (db : Database A) (ranges left : List (Range PdbInternalRva)) (table : List (K × ℕ)) (before lookups : ℕ) : Type 0 where
    pub each : (test : A → Bool) → sum_found found test table + in_ranges (λ _ x. picked test (answer_at sections db x)) left ≡ in_ranges (λ _ x. picked test (answer_at sections db x)) ranges
    pub room : sum_of table + in_ranges (λ _ _. true) left ≤ in_ranges (λ _ _. true) ranges
    pub lookups_left : lookups + in_ranges (begins sections db) left ≤ before + in_ranges (begins sections db) ranges

  pub so_far_start : (sections : List ImageSectionHeader) (db : Database A) (ranges : List (Range PdbInternalRva)) (lookups : ℕ) → IsSoFar sections db ranges ranges [] lookups lookups
  so_far_start sections db ranges lookups = record {
    each = λ test. omega arith;
    room = omega arith;
    lookups_left = omega arith;
  }

  pub so_far_more : (sections : List ImageSectionHeader) (db : Database A) (ranges left due : List (Range PdbInternalRva)) (r : Range PdbInternalRva) (t u : List (K × ℕ)) (x y z : ℕ)
      → due ≡ r ∷ left → IsSoFar sections db ranges due t x y
      → IsCounted found (answer_at sections db) r.start.0 (r.end.0 - r.start.0) t u → IsWithin (begins sections db r.start.0) r.start.0 (r.end.0 - r.start.0) y z
      → IsSoFar sections db ranges left u x z
  so_far_more sections db ranges left due r t u x y z is h counted within = record {
    each = λ test.
        let a = counted.each test in
        let b : sum_found found test t + in_ranges (λ _ v. picked test (answer_at sections db v)) (r ∷ left) ≡ in_ranges (λ _ v. picked test (answer_at sections db v)) ranges =
        subst (λ (l : List (Range PdbInternalRva)). sum_found found test t + in_ranges (λ _ v. picked test (answer_at sections db v)) l ≡ in_ranges (λ _ v. picked test (answer_at sections db v)) ranges) is (h.each test) in
        omega (arith, a, b);
    room =
        let a = counted.room in
        let b : sum_of t + in_ranges (λ _ _. true) (r ∷ left) ≤ in_ranges (λ _ _. true) ranges =
        subst (λ (l : List (Range PdbInternalRva)). sum_of t + in_ranges (λ _ _. true) l ≤ in_ranges (λ _ _. true) ranges) is h.room in
        let c : how_many (λ _. true) r.start.0 (r.end.0 - r.start.0) ≡ r.end.0 - r.start.0 = how_many-same (λ _. true) true (r.end.0 - r.start.0) r.start.0 (λ _ _. refl) in
        omega (arith, a, b, c);
    lookups_left =
        let a = within.bound in
        let b : y + in_ranges (begins sections db) (r ∷ left) ≤ x + in_ranges (begins sections db) ranges =
        subst (λ (l : List (Range PdbInternalRva)). y + in_ranges (begins sections db) l ≤ x + in_ranges (begins sections db) ranges) is h.lookups_left in
        omega (arith, a, b);
  }

  -- no more is counted than there are addresses
  pub so_far_most : (laid : (omap : Option (List OMAPRecord)) (start end : ℕ) → laid_out (runs omap start end) ≡ one_by_one omap start end)
      → (m : Map) (db : Database A) (s e : ℕ) (left : List (Range PdbInternalRva)) (table : List (K × ℕ)) (before lookups : ℕ)
      → IsSoFar m.internal db (internal_ranges m.to_internal s e) left table before lookups → sum_of table + in_ranges (λ _ _. true) left ≤ e - s
  so_far_most laid m db s e left table before lookups h =
      let a = h.room in
      let b = all_addresses laid m s e in
      omega (arith, a, b)

  -- at the end the table has each address
  pub so_far_end : (laid : (omap : Option (List OMAPRecord)) (start end : ℕ) → laid_out (runs omap start end) ≡ one_by_one omap start end)
      → (m : Map) (db : Database A) (s e : ℕ) (left : List (Range PdbInternalRva)) (table : List (K × ℕ)) (before lookups : ℕ) → e ≤ 2 ^ 32 → left ≡ []
      → IsSoFar m.internal db (internal_ranges m.to_internal s e) left table before lookups → IsCounted found (counted_at m db) s (e - s) [] table
  so_far_end laid m db s e left table before lookups low none h =
      let g : IsSoFar m.internal db (internal_ranges m.to_internal s e) [] table before lookups = subst (λ (l : List (Range PdbInternalRva)). IsSoFar m.internal db (internal_ranges m.to_internal s e) l table before lookups) none h in
      record {
        each = λ test. let a = g.each test in let b = ranges_one_by_one laid m db (picked test) s e refl low in omega (arith, a, b);
        room = let a = so_far_most laid m db s e left table before lookups h in omega (arith, a);
      }

  -- and a tally rose by no more than there are pieces
  pub so_far_asked : (m : Map) (db : Database A) (s e : ℕ) (left : List (Range PdbInternalRva)) (table : List (K × ℕ)) (before lookups : ℕ)
      → IsSoFar m.internal db (internal_ranges m.to_internal s e) left table before lookups → lookups ≤ before + pieces m db s e
  so_far_asked m db s e left table before lookups h = let a = h.lookups_left in omega (arith, a)

-- the counts of the answers that the keys stand for
module _ {K A : Type 0} (cmp : A → A → Ordering) (total : IsTotalOrder cmp) (exact : (a b : A) → cmp a b ≡ Equal → a ≡ b) (found : K → Option A)
    (m : Map) (db : Database A) (s e : ℕ) (keys : List (K × ℕ)) (counts : List (A × ℕ)) (counted : IsCounted found (counted_at m db) s (e - s) [] keys) (resolved : IsResolved found keys counts) where
  pub each_counted : IsTable cmp counts → (f : A) → count_in cmp counts f ≡ count cmp m db s e f
  each_counted table f = let a = count_is_sum cmp total exact f counts table.order ∙ resolved.each (is_same cmp f) in let b = counted.each (is_same cmp f) in omega (arith, a, b)

  -- as many are counted as have an answer
  pub sum_counted : sum_of counts ≡ how_many (λ a. is_some (counted_at m db a)) s (e - s)
  sum_counted =
      let a = sym (sum_all counts) ∙ resolved.each (λ _. true) in
      let b = counted.each (λ _. true) in
      let c = how_many-along (λ a. picked (λ _. true) (counted_at m db a)) (λ a. is_some (counted_at m db a)) (e - s) s s (λ k lt. picked_any (counted_at m db (s + k))) in
      omega (arith, a, b, c)

  pub most_counted : sum_of counts ≤ e - s
  most_counted =
      let a = sum_counted in
      let b = how_many-most (λ x. is_some (counted_at m db x)) (e - s) s in
      omega (arith, a, b)

  pub none_counted : e - s - sum_of counts ≡ count_of_none m db s e
  none_counted =
      let a = sum_counted in
      let b = how_many-not (λ x. is_some (counted_at m db x)) (e - s) s in
      omega (arith, a, b)
