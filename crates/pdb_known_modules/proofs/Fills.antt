-- A list whose elements are replaced from the first on.
use Rattle.std.proofs.Common.{◌≡◌, ℕ, ◌+◌, ◌<◌, ◌≤◌, List, [], ◌∷◌, ◌++◌, length, drop, refl, ap, subst, ◌∙◌, arith, zero, suc}
use Rattle.std.specs.Prelude.{replicate, slice_set}
use Rattle.std.proofs.lemmas.List.{append-nil, drop_all}

fill_suc : {X : Type 0} → (n : ℕ) (y : X) (xs : List X) → n < length xs → slice_set (replicate n y ++ drop n xs) n y ≡ replicate (suc n) y ++ drop (suc n) xs
fill_suc n y [] lt = absurd (omega (arith, lt))
fill_suc zero y (x ∷ xs) lt = refl
fill_suc (suc n) y (x ∷ xs) lt = ap (λ rest. y ∷ rest) (fill_suc n y xs (omega (arith, lt)))

-- where the first n are the same value, one more makes it n + 1
pub fill_more : {X : Type 0} → (n : ℕ) (y : X) (xs : List X) → n < length xs → slice_set (replicate n y ++ drop n xs) n y ≡ replicate (n + 1) y ++ drop (n + 1) xs
fill_more n y xs lt = let e : suc n ≡ n + 1 = omega arith in
    subst (λ k. slice_set (replicate n y ++ drop n xs) n y ≡ replicate k y ++ drop k xs) e (fill_suc n y xs lt)

-- where all of them are, there is nothing else
pub fill_all : {X : Type 0} → (n : ℕ) (y : X) (xs : List X) → n ≤ length xs → length xs ≤ n → replicate n y ++ drop n xs ≡ replicate (length xs) y
fill_all n y xs most least =
    let e : n ≡ length xs = omega (arith, most, least) in
    rw (drop_all n xs least) (append-nil (replicate n y) ∙ ap (λ k. replicate k y) e)
