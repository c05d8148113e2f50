-- The counts of a range, with the count of nothing, are as many as its addresses.
use Rattle.std.proofs.Common.{◌≡◌, ℕ, zero, suc, ◌+◌, Bool, true, false, cond, not, List, [], ◌∷◌, refl, sym, ap, ◌∙◌, subst, arith}
use Rattle.std.specs.Prelude.{Option, None, Some, is_some, option_and_then}
use Rattle.std.specs.declared.cmp.Ordering.{Ordering}
use Rattle.std.specs.declared.cmp.Ordering.TheVariants.{Less, Equal, Greater}
use Rattle.std.specs.BTreeMap.{insert_entry}
use Rattle.std.specs.List.{AllByRecursion}
use Rattle.std.specs.List.Sorted.{IsStrictlySortedBy}
use Rattle.std.specs.Map.{keys_of}
use Rattle.std.specs.Ordering.{match_ordering, ordering_reverse}
use Rattle.std.specs.Cmp.{IsTotalOrder}
use Rattle.pdb_owners.specs.Answers.{is_answer, is_same, picked}
use Rattle.pdb_addresses.specs.Addresses.{Map, inner, inner_place}
use Rattle.pdb_addresses.specs.Places.{Place}
use Rattle.pdb_owners.specs.Counts.{how_many, answer_of, counted_at, is_last}
use Rattle.pdb_owners.specs.Databases.{Database}
use Rattle.pdb_owners.specs.Table.{IsTable, IsAdded, IsCounted, count_in, sum_of}
use Rattle.pdb_owners.proofs.CountLemmas.{counted_start, counted_more, counted_run, sum_all, picked_any}
use Rattle.pdb_owners.proofs.HowMany.{how_many-not, how_many-along}
use Rattle.pdb_owners.proofs.TableLemmas.{added, table_raised, empty_table, count_is_sum}
use Rattle.pdb_owners.proofs.UniqueLemmas.{table_unique}

then_some : {A : Type 0} (o : Option A) → option_and_then Some o ≡ o
then_some None = refl
then_some (Some a) = refl

module _ {A : Type 0} (cmp : A → A → Ordering) (total : IsTotalOrder cmp) (exact : (a b : A) → cmp a b ≡ Equal → a ≡ b) where
  -- ---- an answer that comes to a table in order leaves it in order

  -- all of these lie after an answer
  IsBehind : A → List A → Type 0
  IsBehind a fs = AllByRecursion (λ f. cmp a f ≡ Less) fs

  all_behind : (a b : A) (fs : List A) → cmp a b ≡ Less → IsBehind b fs → IsBehind a fs
  unfolding IsBehind
  all_behind a b [] h all = tt
  all_behind a b (f ∷ fs) h all = (total.trans a b f h all.0, all_behind a b fs h all.1)

  behind_at : (o : Ordering) (a k : A) (w : ℕ) (e : A × ℕ) (es more : List (A × ℕ)) → cmp a k ≡ Less → cmp a e.0 ≡ Less → IsBehind a (keys_of es) → IsBehind a (keys_of more)
      → IsBehind a (keys_of (match_ordering o ((k, w) ∷ e ∷ es) ((e.0, w) ∷ es) (e ∷ more)))
  unfolding IsBehind
  behind_at Less a k w e es more h first others all = (h, (first, others))
  behind_at Equal a k w e es more h first others all = (first, others)
  behind_at Greater a k w e es more h first others all = (first, all)

  behind_put : (a k : A) (w : ℕ) (es : List (A × ℕ)) → cmp a k ≡ Less → IsBehind a (keys_of es) → IsBehind a (keys_of (insert_entry cmp es k w))
  unfolding IsBehind
  behind_put a k w [] h all = (h, tt)
  behind_put a k w (e ∷ es) h all = behind_at (cmp k e.0) a k w e es (insert_entry cmp es k w) h all.0 all.1 (behind_put a k w es h all.1)

  in_order_at : (o : Ordering) (k : A) (w : ℕ) (e : A × ℕ) (es more : List (A × ℕ)) → cmp k e.0 ≡ o → IsBehind e.0 (keys_of es) → IsStrictlySortedBy cmp (keys_of es)
      → (cmp e.0 k ≡ Less → IsBehind e.0 (keys_of more)) → IsStrictlySortedBy cmp (keys_of more)
      → IsStrictlySortedBy cmp (keys_of (match_ordering o ((k, w) ∷ e ∷ es) ((e.0, w) ∷ es) (e ∷ more)))
  unfolding IsStrictlySortedBy IsBehind
  in_order_at Less k w e es more at first order behind all = ((at, all_behind k e.0 (keys_of es) at first), (first, order))
  in_order_at Equal k w e es more at first order behind all = (first, order)
  in_order_at Greater k w e es more at first order behind all = (behind (total.antisymm e.0 k ∙ ap ordering_reverse at), all)

  put_in_order : (k : A) (w : ℕ) (es : List (A × ℕ)) → IsStrictlySortedBy cmp (keys_of es) → IsStrictlySortedBy cmp (keys_of (insert_entry cmp es k w))
  unfolding IsStrictlySortedBy IsBehind
  put_in_order k w [] order = (tt, tt)
  put_in_order k w (e ∷ es) order =
      in_order_at (cmp k e.0) k w e es (insert_entry cmp es k w) refl order.0 order.1 (λ less. behind_put e.0 k w es less order.0) (put_in_order k w es order.1)

  -- ---- each range has a table

  with_answer : (t : List (A × ℕ)) (answer : Option A) → IsTable cmp t → (u : List (A × ℕ)) × IsTable cmp u × IsAdded t answer 1 u
  with_answer t None table = (t, table, record { each = λ test. omega arith; all = omega arith; few = omega arith })
  with_answer t (Some k) table =
      let u : List (A × ℕ) = insert_entry cmp t k (count_in cmp t k + 1) in
      (u, table_raised cmp total exact t u k (count_in cmp t k + 1) table (omega arith) refl (put_in_order k (count_in cmp t k + 1) t table.order), added cmp total exact t k 1 table.order)

  table_from : (answer : ℕ → Option A) (n a : ℕ) (t : List (A × ℕ)) → IsTable cmp t → (u : List (A × ℕ)) × IsTable cmp u × IsCounted Some answer a n t u
  table_from answer zero a t table = (t, table, counted_start Some answer a t)
  table_from answer (suc n) a t table =
      let one = with_answer t (answer a) table in
      let all = table_from answer n (a + 1) one.0 one.1 in
      let first : IsCounted Some answer a 1 t one.0 = counted_run Some answer a 1 (answer a) t one.0 (λ k lt. let e : a + k ≡ a = omega arith in ap answer e ∙ sym (then_some (answer a))) one.2 in
      let e : 1 + n ≡ suc n = omega arith in
      (all.0, all.1, subst (λ (m : ℕ). IsCounted Some answer a m t all.0) e (counted_more Some answer a 1 n t one.0 all.0 first all.2))

  -- ---- the sum of a table

  -- a table that counts the answers of a range has as many as there are answers in it
  table_sum : (answer : ℕ → Option A) (a n : ℕ) (t : List (A × ℕ)) → IsTable cmp t → ((f : A) → count_in cmp t f ≡ how_many (λ x. is_answer cmp f (answer x)) a n)
      → sum_of t ≡ how_many (λ x. is_some (answer x)) a n
  table_sum answer a n t table each =
      let none = empty_table cmp total exact [] refl in
      let made = table_from answer n a [] none.0 in
      let same : t ≡ made.0 = table_unique cmp total exact t made.0 table made.1
      (λ f. let h = made.2.each (is_same cmp f) in let s = count_is_sum cmp total exact f made.0 made.1.order in let g = each f in omega (arith, h, s, g)) in
      let all = made.2.each (λ _. true) in
      let any = how_many-along (λ x. picked (λ _. true) (answer x)) (λ x. is_some (answer x)) n a a (λ k lt. picked_any (answer (a + k))) in
      ap sum_of same ∙ sym (sum_all made.0) ∙ omega (arith, all, any)

  -- with those that have none there are as many as numbers
  pub table_fills : (answer : ℕ → Option A) (a n : ℕ) (t : List (A × ℕ)) → IsTable cmp t → ((f : A) → count_in cmp t f ≡ how_many (λ x. is_answer cmp f (answer x)) a n)
      → sum_of t + how_many (λ x. not (is_some (answer x))) a n ≡ n
  table_fills answer a n t table each =
      let sum = table_sum answer a n t table each in
      let all = how_many-not (λ x. is_some (answer x)) n a in
      omega arith

-- where there is an answer of one database, there is one of another
kept_some : {A B : Type 0} (last : Bool) (a : Option A) (b : Option B) → (is_some a ≡ true → is_some b ≡ true) → is_some (cond last None a) ≡ true → is_some (cond last None b) ≡ true
kept_some true a b h g = g
kept_some false a b h g = h g

there_some : {A B : Type 0} (db : Database A) (other : Database B) (o : Option Place) → ((place : Place) → is_some (db.answer place) ≡ true → is_some (other.answer place) ≡ true)
    → is_some (option_and_then db.answer o) ≡ true → is_some (option_and_then other.answer o) ≡ true
there_some db other None h g = g
there_some db other (Some place) h g = h place g

pub some_counted : {A B : Type 0} (m : Map) (db : Database A) (other : Database B) → ((place : Place) → is_some (db.answer place) ≡ true → is_some (other.answer place) ≡ true)
    → (a : ℕ) → is_some (counted_at m db a) ≡ true → is_some (counted_at m other a) ≡ true
some_counted m db other h a = kept_some (is_last (inner m a)) (answer_of m db a) (answer_of m other a) (there_some db other (inner_place m a) h)
