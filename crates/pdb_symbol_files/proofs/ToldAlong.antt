-- What is told along addresses.
use Rattle.std.proofs.Common.{◌≡◌, ℕ, ◌+◌, ◌-◌, ◌<◌, ◌≤◌, List, [], ◌∷◌, ◌++◌, Bool, true, false, cond}
use Rattle.std.proofs.Common.{refl, sym, ◌∙◌, ap, arith, zero, suc}
use Rattle.std.specs.Prelude.{Option, None, Some}
use Rattle.std.proofs.lemmas.List.{append_assoc}
use Rattle.pdb_symbol_files.specs.Told.{Answer, Told, answers_from}
use Rattle.pdb_symbol_files.specs.Code.{answer_if, answers_among, answers_along}

-- what is told of an address, if that passes
abbrev one_if : Bool → ℕ → Option Told → List Answer
one_if b address told = cond b (answer_if address told) []

-- two tests with one outcome
pub among_same : (told : ℕ → Option Told) (t u : ℕ → Bool) (count a : ℕ)
    → ((x : ℕ) → a ≤ x → x < a + count → t x ≡ u x)
    → answers_among t told a count ≡ answers_among u told a count
among_same told t u zero a h = refl
among_same told t u (suc count) a h =
    let here : t a ≡ u a = h a (omega arith) (omega arith) in
    let rest : answers_among t told (suc a) count ≡ answers_among u told (suc a) count =
    among_same told t u count (suc a) (λ x from below. h x (omega arith) (omega arith)) in
    ap (λ (b : Bool). one_if b a (told a) ++ answers_among t told (suc a) count) here
    ∙ ap (λ (xs : List Answer). one_if (u a) a (told a) ++ xs) rest

-- addresses of which none passes
pub among_none : (told : ℕ → Option Told) (count a : ℕ)
    → answers_among (λ _. false) told a count ≡ []
among_none told zero a = refl
among_none told (suc count) a = among_none told count (suc a)

-- addresses one after the other
pub among_append : (told : ℕ → Option Told) (t : ℕ → Bool) (n m k a b : ℕ) → k ≡ n + m
    → b ≡ a + n
    → answers_among t told a k ≡ answers_among t told a n ++ answers_among t told b m
among_append told t zero m k a b e f =
    let h : k ≡ m = omega arith in let g : b ≡ a = omega arith in rw (h, g) refl
among_append told t (suc n) m zero a b e f = absurd (omega arith)
among_append told t (suc n) m (suc k) a b e f =
    let rest : answers_among t told (suc a) k
    ≡ answers_among t told (suc a) n ++ answers_among t told b m =
    among_append told t n m k (suc a) b (omega arith) (omega arith) in
    ap (λ (xs : List Answer). one_if (t a) a (told a) ++ xs) rest
    ∙ sym (append_assoc (one_if (t a) a (told a)) (answers_among t told (suc a) n)
    (answers_among t told b m))

-- addresses of which the same is told
pub along_some : (told : ℕ → Option Told) (count a : ℕ) (one : Told)
    → ((x : ℕ) → a ≤ x → x < a + count → told x ≡ Some one)
    → answers_along told a count ≡ answers_from a count one
along_some told zero a one h = refl
along_some told (suc count) a one h =
    let here : told a ≡ Some one = h a (omega arith) (omega arith) in
    let rest : answers_along told (suc a) count ≡ answers_from (suc a) count one =
    along_some told count (suc a) one (λ x from below. h x (omega arith) (omega arith)) in
    ap (λ (o : Option Told). answer_if a o ++ answers_along told (suc a) count) here
    ∙ ap (λ (xs : List Answer). record { address = a; told = one } ∷ xs) rest

-- addresses of which nothing is told
pub along_none : (told : ℕ → Option Told) (count a : ℕ)
    → ((x : ℕ) → a ≤ x → x < a + count → told x ≡ None) → answers_along told a count ≡ []
along_none told zero a h = refl
along_none told (suc count) a h =
    let here : told a ≡ None = h a (omega arith) (omega arith) in
    let rest : answers_along told (suc a) count ≡ [] =
    along_none told count (suc a) (λ x from below. h x (omega arith) (omega arith)) in
    ap (λ (o : Option Told). answer_if a o ++ answers_along told (suc a) count) here ∙ rest

-- addresses from one on, and more of them
pub along_more : (told : ℕ → Option Told) (s x k : ℕ) → s ≤ x
    → answers_along told s (x + k - s) ≡ answers_along told s (x - s) ++ answers_along told x k
along_more told s x k low =
    among_append told (λ _. true) (x - s) k (x + k - s) s x (omega arith) (omega arith)
