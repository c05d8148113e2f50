-- A table in which the number of one answer was raised.
use Rattle.std.proofs.Common.{◌≡◌, ℕ, ◌+◌, ◌^◌, ◌<◌, ◌≤◌, rules, Bool, true, false, cond, List, [], ◌∷◌, length, refl, sym, ap, ◌∙◌, subst, arith}
use Rattle.std.specs.Prelude.{Option, Some, option_map, unwrap_or, sum}
use Rattle.std.specs.declared.cmp.Ordering.{Ordering}
use Rattle.std.specs.declared.cmp.Ordering.TheVariants.{Less, Equal, Greater}
use Rattle.std.specs.Cmp.{IsTotalOrder}
use Rattle.std.specs.BTreeMap.{insert_entry, is_at}
use Rattle.std.specs.List.{All, AllByRecursion}
use Rattle.std.specs.List.Sorted.{IsStrictlySortedBy}
use Rattle.std.specs.Map.{lookup, keys_of, values_of}
use Rattle.std.specs.Ordering.{match_ordering, is_eq}
use Rattle.std.proofs.lemmas.Map.Steps.{lookup-le-sum}
use Rattle.std.proofs.lemmas.Map.Entries.{sum_by-insert_entry}
use Rattle.std.proofs.lemmas.Map.Views.{All-values-insert_entry}
use Rattle.std.proofs.lemmas.Iterator.Adapters.{option_map_id}
use Rattle.pdb_owners.specs.Answers.{is_same}
use Rattle.pdb_owners.specs.Table.{IsTable, IsAdded, count_in, sum_of, sum_where}
use Rattle.pdb_owners.proofs.Exact.{same_is}

-- what a test counts of a number that counts twice, or not
counts_twice : (b : Bool) (n m : ℕ) → cond b (n + m) 0 ≡ cond b n 0 + cond b m 0
counts_twice true n m = refl
counts_twice false n m = refl

zeros : (b : Bool) → ◌≡◌ {A = ℕ} (cond b 0 0) 0
zeros true = refl
zeros false = refl

module _ {A : Type 0} (cmp : A → A → Ordering) (total : IsTotalOrder cmp) (exact : (a b : A) → cmp a b ≡ Equal → a ≡ b) where
  -- what stands after an answer has no count of it
  lookup_after : (k : A) (es : List (A × ℕ)) → AllByRecursion (λ q. cmp k q ≡ Less) (keys_of es) → unwrap_or (lookup (is_same cmp k) es) 0 ≡ 0
  lookup_after k [] h = refl
  lookup_after k (e ∷ es) h = rw (h.0) (lookup_after k es h.1)

  all_after : (k e : A) (qs : List A) → cmp k e ≡ Less → AllByRecursion (λ q. cmp e q ≡ Less) qs → AllByRecursion (λ q. cmp k q ≡ Less) qs
  all_after k e [] less h = tt
  all_after k e (q ∷ qs) less h = (total.trans k e q less h.0, all_after k e qs less h.1)

  put_at : (test : A → Bool) (o : Ordering) (k : A) (w : ℕ) (e : A × ℕ) (es more : List (A × ℕ)) → cmp k e.0 ≡ o
      → AllByRecursion (λ q. cmp e.0 q ≡ Less) (keys_of es)
      → sum_where test more + cond (test k) (unwrap_or (lookup (is_same cmp k) es) 0) 0 ≡ sum_where test es + cond (test k) w 0
      → sum_where test (match_ordering o ((k, w) ∷ e ∷ es) ((e.0, w) ∷ es) (e ∷ more)) + cond (test k) (unwrap_or (cond (is_eq o) (Some e.1) (lookup (is_same cmp k) es)) 0) 0
      ≡ sum_where test (e ∷ es) + cond (test k) w 0
  put_at test Less k w e es more at after h =
      let none = lookup_after k es (all_after k e.0 (keys_of es) at after) in
      let counted : cond (test k) (unwrap_or (lookup (is_same cmp k) es) 0) 0 ≡ cond (test k) 0 0 = ap (λ (n : ℕ). cond (test k) n 0) none in
      let zero_either = zeros (test k) in
      omega (arith, counted, zero_either)
  put_at test Equal k w e es more at after h =
      let same : k ≡ e.0 = exact k e.0 at in
      let kept : cond (test e.0) w 0 ≡ cond (test k) w 0 = ap (λ (x : A). cond (test x) w 0) (sym same) in
      let gone : cond (test e.0) e.1 0 ≡ cond (test k) e.1 0 = ap (λ (x : A). cond (test x) e.1 0) (sym same) in
      omega (arith, kept, gone)
  put_at test Greater k w e es more at after h = omega (arith, h)

  -- what a test counts once the number of an answer is set
  pub put_sum : (test : A → Bool) (table : List (A × ℕ)) (k : A) (w : ℕ) → IsStrictlySortedBy cmp (keys_of table)
      → sum_where test (insert_entry cmp table k w) + cond (test k) (count_in cmp table k) 0 ≡ sum_where test table + cond (test k) w 0
  unfolding IsStrictlySortedBy
  put_sum test [] k w order = let zero_either = zeros (test k) in omega (arith, zero_either)
  put_sum test (e ∷ es) k w order = put_at test (cmp k e.0) k w e es (insert_entry cmp es k w) refl order.0 (put_sum test es k w order.1)

  -- one more row at most
  put_few_at : (o : Ordering) (k : A) (w : ℕ) (e : A × ℕ) (es more : List (A × ℕ)) → length more ≤ length es + 1
      → length (match_ordering o ((k, w) ∷ e ∷ es) ((e.0, w) ∷ es) (e ∷ more)) ≤ length (e ∷ es) + 1
  put_few_at Less k w e es more h = omega arith
  put_few_at Equal k w e es more h = omega arith
  put_few_at Greater k w e es more h = omega (arith, h)

  put_few : (table : List (A × ℕ)) (k : A) (w : ℕ) → length (insert_entry cmp table k w) ≤ length table + 1
  put_few [] k w = omega arith
  put_few (e ∷ es) k w = put_few_at (cmp k e.0) k w e es (insert_entry cmp es k w) (put_few es k w)

  pub added : (table : List (A × ℕ)) (k : A) (n : ℕ) → IsStrictlySortedBy cmp (keys_of table) → IsAdded table (Some k) n (insert_entry cmp table k (count_in cmp table k + n))
  added table k n order = record {
    each = λ test.
        let put = put_sum test table k (count_in cmp table k + n) order in
        let twice = counts_twice (test k) (count_in cmp table k) n in
        omega (arith, put, twice);
    all =
        let e = sum_by-insert_entry (λ (x : ℕ). x) total table k (count_in cmp table k + n) order in
        let i : unwrap_or (option_map (λ (x : ℕ). x) (lookup (is_same cmp k) table)) 0 ≡ count_in cmp table k = ap (λ (o : Option ℕ). unwrap_or o 0) (option_map_id (lookup (is_same cmp k) table)) in
        omega (arith, e, i);
    few = put_few table k (count_in cmp table k + n);
  }

  -- ---- over a map's own words

  pub raised_to : (es fs : List (A × ℕ)) (k : A) (n before w : ℕ) → IsTable cmp es → before ≡ unwrap_or (lookup (is_at (cmp k)) es) 0 → w ≡ before + n → fs ≡ insert_entry cmp es k w
      → IsAdded es (Some k) n fs
  raised_to es fs k n before w table at sum e =
      let f : fs ≡ insert_entry cmp es k (count_in cmp es k + n) = e ∙ ap (λ (v : ℕ). insert_entry cmp es k v) (sum ∙ ap (λ (v : ℕ). v + n) at) in
      subst (λ (t : List (A × ℕ)). IsAdded es (Some k) n t) (sym f) (added es k n table.order)

  -- in order, where the map is, and with no count of 0
  pub table_raised : (es fs : List (A × ℕ)) (k : A) (w : ℕ) → IsTable cmp es → 1 ≤ w → fs ≡ insert_entry cmp es k w → IsStrictlySortedBy cmp (keys_of fs) → IsTable cmp fs
  table_raised es fs k w table some e order = record {
    order = order;
    some = subst (λ (t : List (A × ℕ)). All (λ n. 1 ≤ n) (values_of t)) (sym e) (All-values-insert_entry cmp k w (λ n. 1 ≤ n) es table.some some);
  }

  pub empty_table : (es : List (A × ℕ)) → es ≡ [] → IsTable cmp es × (sum_of es ≡ 0)
  unfolding IsStrictlySortedBy
  empty_table es h =
      let none : IsTable cmp [] = record { order = tt; some = search rules } in
      subst (λ (t : List (A × ℕ)). IsTable cmp t × (sum_of t ≡ 0)) (sym h) (none, refl)

  pub number_fits : (es : List (A × ℕ)) (k : A) (before count : ℕ) → before ≡ unwrap_or (lookup (is_at (cmp k)) es) 0 → sum_of es + count < 2 ^ 64 → before + count < 2 ^ 64
  number_fits es k before count at room =
      let e : before ≡ count_in cmp es k = at in
      let f = lookup-le-sum (is_same cmp k) es in
      omega (arith, e, f)

  -- ---- what a table in order has for an answer is what the test for it counts

  none_after : (k : A) (es : List (A × ℕ)) → AllByRecursion (λ q. cmp k q ≡ Less) (keys_of es) → sum_where (is_same cmp k) es ≡ 0
  none_after k [] h = refl
  none_after k (e ∷ es) h = let others = none_after k es h.1 in rw (h.0) (omega (arith, others))

  count_at : (f : A) (b : Bool) (e : A × ℕ) (es : List (A × ℕ)) → is_same cmp f e.0 ≡ b → AllByRecursion (λ q. cmp e.0 q ≡ Less) (keys_of es)
      → unwrap_or (lookup (is_same cmp f) es) 0 ≡ sum_where (is_same cmp f) es
      → unwrap_or (cond b (Some e.1) (lookup (is_same cmp f) es)) 0 ≡ cond b e.1 0 + sum_where (is_same cmp f) es
  count_at f true e es at after h =
      let same : f ≡ e.0 = same_is cmp total exact f e.0 at in
      let none : sum_where (is_same cmp f) es ≡ 0 = subst (λ (x : A). sum_where (is_same cmp x) es ≡ 0) (sym same) (none_after e.0 es after) in
      omega (arith, none)
  count_at f false e es at after h = omega (arith, h)

  pub count_is_sum : (f : A) (table : List (A × ℕ)) → IsStrictlySortedBy cmp (keys_of table) → count_in cmp table f ≡ sum_where (is_same cmp f) table
  unfolding IsStrictlySortedBy
  count_is_sum f [] order = refl
  count_is_sum f (e ∷ es) order = count_at f (is_same cmp f e.0) e es refl order.0 (count_is_sum f es order.1)
