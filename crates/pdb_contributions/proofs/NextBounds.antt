-- The distance to the next of several bounds.
use Rattle.std.proofs.Common.{◌≡◌, ℕ, ◌-◌, min, inl, inr, List, [], ◌∷◌, ◌++◌, refl, sym, ap, ◌∙◌, arith}
use Rattle.std.proofs.lemmas.Bool.{cases_lt}
use Rattle.pdb_addresses.proofs.RunSteps.{past, passed}
use Rattle.pdb_addresses.specs.SectionRun.{nearer, up_to_next}

-- ---- one bound and another

-- two bounds in either order
commute : (x b c far : ℕ) → nearer x b (nearer x c far) ≡ nearer x c (nearer x b far)
commute x b c far = elim (cases_lt x b) [
  | inl low ↦ elim (cases_lt x c) [
    | inl low' ↦ past x b (nearer x c far) low ∙ ap (λ n. min n (b - x)) (past x c far low') ∙ (omega arith) ∙ sym (past x c (nearer x b far) low' ∙ ap (λ n. min n (c - x)) (past x b far low))
    | inr high' ↦ ap (nearer x b) (passed x c far high') ∙ sym (passed x c (nearer x b far) high')
  ]
  | inr high ↦ passed x b (nearer x c far) high ∙ ap (nearer x c) (sym (passed x b far high))
]

into : (bs : List ℕ) (x b far : ℕ) → nearer x b (up_to_next bs x far) ≡ up_to_next bs x (nearer x b far)
into [] x b far = refl
into (c ∷ bs) x b far = commute x b c (up_to_next bs x far) ∙ ap (nearer x c) (into bs x b far)

-- ---- several

-- what comes first may be asked first
pub first_asked : (bs cs : List ℕ) (x far : ℕ) → up_to_next (bs ++ cs) x far ≡ up_to_next cs x (up_to_next bs x far)
first_asked [] cs x far = refl
first_asked (b ∷ bs) cs x far = ap (nearer x b) (first_asked bs cs x far) ∙ into cs x b (up_to_next bs x far)

-- what comes last may be asked first
pub last_asked : (bs cs : List ℕ) (x far : ℕ) → up_to_next (bs ++ cs) x far ≡ up_to_next bs x (up_to_next cs x far)
last_asked [] cs x far = refl
last_asked (b ∷ bs) cs x far = ap (nearer x b) (last_asked bs cs x far)

-- three lists, the last one first
pub next_of_all : (bs cs ds : List ℕ) (x far : ℕ) → up_to_next bs x (up_to_next cs x (up_to_next ds x far)) ≡ up_to_next (bs ++ (cs ++ ds)) x far
next_of_all bs cs ds x far = sym (last_asked bs (cs ++ ds) x far ∙ ap (up_to_next bs x) (last_asked cs ds x far))

-- two lists, where the third has nothing
pub next_of_two : (bs cs : List ℕ) (x far : ℕ) → up_to_next bs x (up_to_next cs x far) ≡ up_to_next (bs ++ (cs ++ [])) x far
next_of_two bs cs x far = next_of_all bs cs [] x far
