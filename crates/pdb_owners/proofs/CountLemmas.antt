-- What a table of keys has counted, and how often was asked for it, grows by parts.
use Rattle.std.proofs.Common.{◌≡◌, ℕ, ◌+◌, ◌<◌, ◌≤◌, Bool, true, false, cond, List, [], ◌∷◌, refl, ap, subst, arith}
use Rattle.std.specs.Prelude.{Option, None, Some, is_some, option_and_then}
use Rattle.std.specs.Map.{values_of}
use Rattle.std.proofs.lemmas.List.Sums.{sum_by-cons}
use Rattle.pdb_owners.specs.Answers.{picked}
use Rattle.pdb_owners.specs.Table.{IsAdded, IsCounted, IsWithin, sum_of, sum_where}
use Rattle.pdb_owners.proofs.HowMany.{how_many-zero, how_many-append, how_many-along, how_many-le, how_many-same, how_many-first}

pub counts_most : (b : Bool) (n : ℕ) → cond b n 0 ≤ n
counts_most true n = omega arith
counts_most false n = omega arith

-- as many as a number that is the same
pub added_as : {K : Type 0} (t : List (K × ℕ)) (key : Option K) (n m : ℕ) (u : List (K × ℕ)) → n ≡ m → IsAdded t key n u → IsAdded t key m u
added_as t key n m u same h = subst (λ (k : ℕ). IsAdded t key k u) same h

-- the answer of a key passes where the key does
pub picked_then : {K A : Type 0} (found : K → Option A) (test : A → Bool) (key : Option K) → picked (λ k. picked test (found k)) key ≡ picked test (option_and_then found key)
picked_then found test None = refl
picked_then found test (Some k) = refl

module _ {K A : Type 0} (found : K → Option A) where
  pub counted_start : (answer : ℕ → Option A) (a : ℕ) (table : List (K × ℕ)) → IsCounted found answer a 0 table table
  counted_start answer a table = record {
    each = λ test. let z = how_many-zero (λ x. picked test (answer x)) a in omega arith;
    room = omega arith;
  }

  pub counted_more : (answer : ℕ → Option A) (a n m : ℕ) (t u w : List (K × ℕ)) → IsCounted found answer a n t u → IsCounted found answer (a + n) m u w → IsCounted found answer a (n + m) t w
  counted_more answer a n m t u w h g = record {
    each = λ test. let e = how_many-append (λ x. picked test (answer x)) n m a in let p = h.each test in let q = g.each test in omega arith;
    room = let p = h.room in let q = g.room in omega arith;
  }

  -- numbers that all have one answer
  pub counted_run : (answer : ℕ → Option A) (a n : ℕ) (key : Option K) (t u : List (K × ℕ)) → ((k : ℕ) → k < n → answer (a + k) ≡ option_and_then found key) → IsAdded t key n u → IsCounted found answer a n t u
  counted_run answer a n key t u alike h = record {
    each = λ test.
        let e = how_many-same (λ x. picked test (answer x)) (picked test (option_and_then found key)) n a (λ k lt. ap (picked test) (alike k lt)) in
        let s : cond (picked (λ k. picked test (found k)) key) n 0 ≡ cond (picked test (option_and_then found key)) n 0 = ap (λ (b : Bool). cond b n 0) (picked_then found test key) in
        let p = h.each (λ k. picked test (found k)) in
        omega arith;
    room = let p = h.all in let m = counts_most (is_some key) n in omega arith;
  }

  -- numbers without an answer
  pub counted_none : (answer : ℕ → Option A) (a n : ℕ) (t : List (K × ℕ)) → ((k : ℕ) → k < n → answer (a + k) ≡ None) → IsCounted found answer a n t t
  counted_none answer a n t none = record {
    each = λ test. let e = how_many-same (λ x. picked test (answer x)) false n a (λ k lt. ap (picked test) (none k lt)) in omega arith;
    room = omega arith;
  }

  -- the same answers at other numbers
  pub counted_along : (answer other : ℕ → Option A) (a b n : ℕ) (t u : List (K × ℕ)) → ((k : ℕ) → k < n → other (b + k) ≡ answer (a + k)) → IsCounted found answer a n t u → IsCounted found other b n t u
  counted_along answer other a b n t u same h = record {
    each = λ test. let e = how_many-along (λ x. picked test (other x)) (λ x. picked test (answer x)) n b a (λ k lt. ap (picked test) (same k lt)) in let p = h.each test in omega arith;
    room = h.room;
  }

-- all counts are those that pass every test
pub sum_all : {A : Type 0} (table : List (A × ℕ)) → sum_where (λ _. true) table ≡ sum_of table
sum_all [] = refl
sum_all (e ∷ table) = let h = sum_all table in let c = sum_by-cons (λ (n : ℕ). n) e.1 (values_of table) in omega (arith, h, c)

-- whatever there is passes every test
pub picked_any : {A : Type 0} (o : Option A) → picked (λ _. true) o ≡ is_some o
picked_any None = refl
picked_any (Some a) = refl

pub within_start : (test : ℕ → Bool) (a x : ℕ) → IsWithin test a 0 x x
within_start test a x = record { bound = omega arith }

pub within_none : (test : ℕ → Bool) (a n x : ℕ) → IsWithin test a n x x
within_none test a n x = record { bound = omega arith }

-- one more, where the next number passes
pub within_one : (test : ℕ → Bool) (a n m x y z : ℕ) → IsWithin test a n x y → test (a + n) ≡ true → 1 ≤ m → z ≤ y + 1 → IsWithin test a (n + m) x z
within_one test a n m x y z h passes some one = record {
  bound =
      let e = how_many-append test n m a in
      let f = how_many-first test m (a + n) some passes in
      let p = h.bound in
      omega arith;
}

-- as many more as pass a test that passes no more often
pub within_more : (test other : ℕ → Bool) (a n b m x y z : ℕ) → IsWithin test a n x y → IsWithin other b m y z → ((k : ℕ) → k < m → other (b + k) ≡ true → test (a + n + k) ≡ true) → IsWithin test a (n + m) x z
within_more test other a n b m x y z h g passes = record {
  bound =
      let e = how_many-append test n m a in
      let f = how_many-le other test m b (a + n) passes in
      let p = h.bound in
      let q = g.bound in
      omega arith;
}

-- the same at other numbers
pub within_along : (test other : ℕ → Bool) (a b n x y : ℕ) → IsWithin other b n x y → ((k : ℕ) → k < n → other (b + k) ≡ true → test (a + k) ≡ true) → IsWithin test a n x y
within_along test other a b n x y g passes = record {
  bound =
      let f = how_many-le other test n b a passes in
      let q = g.bound in
      omega arith;
}
