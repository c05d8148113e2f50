-- Of so many numbers, how many pass a test.
use Rattle.std.proofs.Common.{◌≡◌, ℕ, zero, suc, ◌+◌, ◌-◌, ◌<◌, ◌≤◌, Bool, true, false, true≢false, cond, not, ◌&&◌, refl, sym, subst, arith}
use Rattle.pdb_owners.specs.Counts.{how_many}

pub how_many-zero : (test : ℕ → Bool) (from : ℕ) → how_many test from 0 ≡ 0
unfolding how_many
how_many-zero test from = refl

pub how_many-append : (test : ℕ → Bool) (n m from : ℕ) → how_many test from (n + m) ≡ how_many test from n + how_many test (from + n) m
unfolding how_many
how_many-append test zero m from =
    let e : 0 + m ≡ m = omega arith in
    let f : from + 0 ≡ from = omega arith in
    let g : 0 + how_many test from m ≡ how_many test from m = omega arith in
    rw (e, f, g) refl
how_many-append test (suc n) m from =
    let e : suc n + m ≡ suc (n + m) = omega arith in
    let f : from + suc n ≡ from + 1 + n = omega arith in
    let h = how_many-append test n m (from + 1) in
    rw (e, f) (omega (arith, h))

-- two tests that agree on n numbers from one on and from another on
pub how_many-along : (s t : ℕ → Bool) (n a b : ℕ) → ((k : ℕ) → k < n → s (a + k) ≡ t (b + k)) → how_many s a n ≡ how_many t b n
unfolding how_many
how_many-along s t zero a b h = refl
how_many-along s t (suc n) a b h =
    let at : a + 0 ≡ a = omega arith in
    let bt : b + 0 ≡ b = omega arith in
    let first : s a ≡ t b = subst (λ (x : ℕ). s a ≡ t x) bt (subst (λ (x : ℕ). s x ≡ t (b + 0)) at (h 0 (omega arith))) in
    let others : how_many s (a + 1) n ≡ how_many t (b + 1) n = how_many-along s t n (a + 1) (b + 1)
    (λ k lt. let g : a + 1 + k ≡ a + suc k = omega arith in let j : b + 1 + k ≡ b + suc k = omega arith in rw (g, j) (h (suc k) (omega arith))) in
    rw (first, others) refl

one_le : (x y : Bool) → (x ≡ true → y ≡ true) → cond x 1 0 ≤ cond y 1 0
one_le true y h = rw (h refl) (omega arith)
one_le false y h = omega arith

-- where one test passes, another does
pub how_many-le : (s t : ℕ → Bool) (n a b : ℕ) → ((k : ℕ) → k < n → s (a + k) ≡ true → t (b + k) ≡ true) → how_many s a n ≤ how_many t b n
unfolding how_many
how_many-le s t zero a b h = omega arith
how_many-le s t (suc n) a b h =
    let at : a + 0 ≡ a = omega arith in
    let bt : b + 0 ≡ b = omega arith in
    let first : s a ≡ true → t b ≡ true = subst (λ (x : ℕ). s a ≡ true → t x ≡ true) bt (subst (λ (x : ℕ). s x ≡ true → t (b + 0) ≡ true) at (h 0 (omega arith))) in
    let others : how_many s (a + 1) n ≤ how_many t (b + 1) n = how_many-le s t n (a + 1) (b + 1)
    (λ k lt. let g : a + 1 + k ≡ a + suc k = omega arith in let j : b + 1 + k ≡ b + suc k = omega arith in rw (g, j) (h (suc k) (omega arith))) in
    let one = one_le (s a) (t b) first in
    omega arith

number_of : (b : Bool) (n m : ℕ) → m ≡ cond b n 0 → cond b 1 0 + m ≡ cond b (suc n) 0
number_of true n m h = omega arith
number_of false n m h = omega arith

-- all have one outcome
pub how_many-same : (t : ℕ → Bool) (b : Bool) (n a : ℕ) → ((k : ℕ) → k < n → t (a + k) ≡ b) → how_many t a n ≡ cond b n 0
unfolding how_many
how_many-same t true zero a h = refl
how_many-same t false zero a h = refl
how_many-same t b (suc n) a h =
    let at : a + 0 ≡ a = omega arith in
    let first : t a ≡ b = subst (λ (x : ℕ). t x ≡ b) at (h 0 (omega arith)) in
    let others : how_many t (a + 1) n ≡ cond b n 0 = how_many-same t b n (a + 1) (λ k lt. let g : a + 1 + k ≡ a + suc k = omega arith in rw g (h (suc k) (omega arith))) in
    rw first (number_of b n (how_many t (a + 1) n) others)

one_most : (x : Bool) → cond x 1 0 ≤ 1
one_most true = omega arith
one_most false = omega arith

pub how_many-most : (t : ℕ → Bool) (n a : ℕ) → how_many t a n ≤ n
unfolding how_many
how_many-most t zero a = omega arith
how_many-most t (suc n) a = let one = one_most (t a) in let others = how_many-most t n (a + 1) in omega arith

one_or_not : (x : Bool) → cond x 1 0 + cond (not x) 1 0 ≡ 1
one_or_not true = refl
one_or_not false = refl

pub how_many-not : (t : ℕ → Bool) (n a : ℕ) → how_many t a n + how_many (λ x. not (t x)) a n ≡ n
unfolding how_many
how_many-not t zero a = refl
how_many-not t (suc n) a = let one = one_or_not (t a) in let others = how_many-not t n (a + 1) in omega arith

-- the first of some numbers passes
pub how_many-first : (t : ℕ → Bool) (n a : ℕ) → 1 ≤ n → t a ≡ true → 1 ≤ how_many t a n
unfolding how_many
how_many-first t zero a some h = absurd (omega arith)
how_many-first t (suc n) a some h = rw h (omega arith)

pub how_many-split : (t : ℕ → Bool) (a b c : ℕ) → a ≤ b → b ≤ c → how_many t a (b - a) + how_many t b (c - b) ≡ how_many t a (c - a)
how_many-split t a b c ab bc =
    let e : b - a + (c - b) ≡ c - a = omega arith in
    let f : a + (b - a) ≡ b = omega arith in
    let g : how_many t a (b - a + (c - b)) ≡ how_many t a (b - a) + how_many t (a + (b - a)) (c - b) = how_many-append t (b - a) (c - b) a in
    subst (λ (y : ℕ). how_many t a (b - a) + how_many t y (c - b) ≡ how_many t a (c - a)) f (sym (subst (λ (n : ℕ). how_many t a n ≡ how_many t a (b - a) + how_many t (a + (b - a)) (c - b)) e g))

beside : (x y : Bool) → (x ≡ true → y ≡ true) → cond y 1 0 ≡ cond x 1 0 + cond (y && not x) 1 0
beside true true h = refl
beside true false h = absurd (true≢false (sym (h refl)))
beside false true h = refl
beside false false h = refl

-- those that pass a test, and those that pass a wider one alone
pub how_many-beside : (s t : ℕ → Bool) (n a : ℕ) → ((x : ℕ) → s x ≡ true → t x ≡ true) → how_many t a n ≡ how_many s a n + how_many (λ x. t x && not (s x)) a n
unfolding how_many
how_many-beside s t zero a h = refl
how_many-beside s t (suc n) a h = let one = beside (s a) (t a) (h a) in let others = how_many-beside s t n (a + 1) h in omega (arith, one, others)
