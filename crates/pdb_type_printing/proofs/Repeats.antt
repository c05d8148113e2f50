-- Arguments at the head of a list that are one and the same.
use Rattle.std.proofs.Common.{◌≡◌, ℕ, suc, ◌+◌, ◌≤◌, Bool, true, false, cond, List, [], ◌∷◌, ◌++◌}
use Rattle.std.proofs.Common.{length, drop, replicate, refl, ap, ◌∙◌, arith}
use Rattle.std.proofs.lemmas.Bool.{eqb-true}
use Rattle.std.proofs.lemmas.List.Sums.{prefix_len-le-length}
use Rattle.std.specs.List.{prefix_len}
use Rattle.std.specs.Prelude.{◌==◌}
use Rattle.pdb_container.specs.declared.index.TypeIndex.{TypeIndex}

one_more : (t u : TypeIndex) (ts : List TypeIndex) (n : ℕ) (same : Bool) → (u.0 == t.0) ≡ same
    → ts ≡ replicate n t ++ drop n ts
    → u ∷ ts ≡ replicate (cond same (1 + n) 0) t ++ drop (cond same (1 + n) 0) (u ∷ ts)
one_more t u ts n true is h = let one : 1 + n ≡ suc n = omega arith in
    let e : u ≡ t = ap (λ (i : ℕ). record { 0 = i }) (eqb-true u.0 t.0 is) in
    rw (one, e) (ap (λ (x : List TypeIndex). t ∷ x) h)
one_more t u ts n false is h = refl

-- the arguments at the head of a list that are one and the same
same_first : (t : TypeIndex) (ts : List TypeIndex) → ts
    ≡ replicate (prefix_len (λ u. u.0 == t.0) ts) t ++ drop (prefix_len (λ u. u.0 == t.0) ts) ts
same_first t [] = refl
same_first t (u ∷ ts) = one_more t u ts _ (u.0 == t.0) refl (same_first t ts)

-- a run of arguments, by how many there are and what is left
pub run_is : (t : TypeIndex) (ts us : List TypeIndex) (n k : ℕ)
    → n ≡ k → k ≡ prefix_len (λ u. u.0 == t.0) ts → us ≡ drop k ts → ts ≡ replicate n t ++ us
run_is t ts us n k same is rest = same_first t ts ∙ rw (rest, same, is)

-- no more repeat an argument than there are
pub at_most : (n : ℕ) (p : TypeIndex → Bool) (ts : List TypeIndex) → n ≡ prefix_len p ts
    → n ≤ length ts
at_most n p ts is = rw is (prefix_len-le-length p ts)
