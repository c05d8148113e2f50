-- The distance to the next bound, by sorted numbers.
use Rattle.std.proofs.Common.{◌≡◌, ℕ, ◌+◌, ◌^◌, ◌<◌, ◌≤◌, inl, inr, false, List, [], ◌∷◌, ◌++◌}
use Rattle.std.proofs.Common.{length, drop, refl, sym, ap, ◌∙◌, arith}
use Rattle.std.specs.Prelude.{◌==◌}
use Rattle.std.specs.List.{flat_map}
use Rattle.std.proofs.lemmas.Bool.{cases_lt, cases_Bool}
use Rattle.std.proofs.lemmas.Bool.Decides.{nat_tests}
use Rattle.std.proofs.lemmas.List.{append-nil, drop_all}
use Rattle.pdb_addresses.proofs.RunSteps.{past, passed, next_in_order}
use Rattle.pdb_addresses.specs.SectionRun.{nearer, up_to_next}
use Rattle.pdb_addresses.specs.declared.internal_section_offset.PdbInternalSectionOffset.{PdbInternalSectionOffset}
use Rattle.pdb_contributions.specs.declared.contribution.ModuleSectionContribution.{ModuleSectionContribution}
use Rattle.pdb_contributions.specs.BoundNumbers.{bound_number, numbers_of, contribution_numbers, AreContributionBounds}
use Rattle.pdb_contributions.specs.SectionBounds.{if_there, contribution_bounds}
use Rattle.pdb_contributions.proofs.NextBounds.{last_asked}

-- ---- what the distance is

-- it is at most the number it is compared with
pub at_most : (bs : List ℕ) (x far : ℕ) → up_to_next bs x far ≤ far
at_most [] x far = omega arith
at_most (b ∷ bs) x far = elim (cases_lt x b) [
  | inl lt ↦ let e = past x b (up_to_next bs x far) lt in let h = at_most bs x far in omega arith
  | inr le ↦ let e = passed x b (up_to_next bs x far) le in let h = at_most bs x far in omega arith
]

-- ---- numbers of bounds in sections

one_here : (s b x far : ℕ) → x < 2 ^ 32 → far < 2 ^ 32 → nearer (bound_number s x) (bound_number s b) far ≡ nearer x b far
one_here s b x far lx lf = elim (cases_lt x b) [
  | inl low ↦ let e = past x b far low in let f = past (bound_number s x) (bound_number s b) far (omega arith) in f ∙ (omega arith) ∙ sym e
  | inr high ↦ passed (bound_number s x) (bound_number s b) far (omega arith) ∙ sym (passed x b far high)
]

one_elsewhere : (s so b x far : ℕ) → x < 2 ^ 32 → far < 2 ^ 32 → (so == s) ≡ false → nearer (bound_number s x) (bound_number so b) far ≡ far
one_elsewhere s so b x far lx lf other = elim (cases_lt so s) [
  | inl before ↦ passed (bound_number s x) (bound_number so b) far (omega arith)
  | inr behind ↦ let differs : s < so = grind (arith, nat_tests) in let f = past (bound_number s x) (bound_number so b) far (omega arith) in f ∙ (omega arith)
]

near_most : (x b far : ℕ) → nearer x b far ≤ far
near_most x b far = elim (cases_lt x b) [ inl lt ↦ let e = past x b far lt in omega arith | inr le ↦ let e = passed x b far le in omega arith ]

-- a start and an end, by their numbers and as they are
two_alike : (s so b e x near : ℕ) → x < 2 ^ 32 → near < 2 ^ 32 → up_to_next (numbers_of so b e) (bound_number s x) near ≡ up_to_next (if_there (so == s) b e) x near
two_alike s so b e x near lx ln = elim (cases_Bool (so == s)) [
  | inl here ↦ let same : so ≡ s = grind (arith, nat_tests) in let most = near_most x e near in
      rw here (ap (λ t. up_to_next (numbers_of t b e) (bound_number s x) near) same ∙ ap (nearer (bound_number s x) (bound_number s b)) (one_here s e x near lx ln) ∙ one_here s b x (nearer x e near) lx (omega arith))
  | inr other ↦ rw other (ap (nearer (bound_number s x) (bound_number so b)) (one_elsewhere s so e x near lx ln other) ∙ one_elsewhere s so b x near lx ln other)
]

-- The distance to the next bound is the same by the bounds' numbers.
pub numbers_alike : {A : Type 0} (section start end : A → ℕ) (xs : List A) (s x far : ℕ) → x < 2 ^ 32 → far < 2 ^ 32
    → up_to_next (flat_map (λ a. numbers_of (section a) (start a) (end a)) xs) (bound_number s x) far ≡ up_to_next (flat_map (λ a. if_there (section a == s) (start a) (end a)) xs) x far
numbers_alike section start end [] s x far lx lf = refl
numbers_alike {A} section start end (a ∷ xs) s x far lx lf =
    let numbers = flat_map (λ (y : A). numbers_of (section y) (start y) (end y)) xs in
    let bounds = flat_map (λ (y : A). if_there (section y == s) (start y) (end y)) xs in
    let most = at_most bounds x far in
    last_asked (numbers_of (section a) (start a) (end a)) numbers (bound_number s x) far
    ∙ ap (up_to_next (numbers_of (section a) (start a) (end a)) (bound_number s x)) (numbers_alike section start end xs s x far lx lf)
    ∙ two_alike s (section a) (start a) (end a) x (up_to_next bounds x far) lx (omega arith)
    ∙ sym (last_asked (if_there (section a == s) (start a) (end a)) bounds x far)

-- the distance to the next start or end of a contribution, by their numbers in order
pub contributions_alike : (cs : List ModuleSectionContribution) (sorted : List ℕ) (p : PdbInternalSectionOffset) (far : ℕ) → p.offset < 2 ^ 32 → far < 2 ^ 32 → AreContributionBounds cs sorted
    → up_to_next sorted (bound_number p.section p.offset) far ≡ up_to_next (flat_map (contribution_bounds p) cs) p.offset far
contributions_alike cs sorted p far lx lf moved =
    next_in_order (flat_map contribution_numbers cs) sorted (bound_number p.section p.offset) far moved
    ∙ numbers_alike (λ (c : ModuleSectionContribution). c.section_index) (λ (c : ModuleSectionContribution). c.start_offset) (λ (c : ModuleSectionContribution). c.end_offset) cs p.section p.offset far lx lf

-- ---- gathering numbers

-- none is left
pub numbers_done : {A : Type 0} (numbers : A → List ℕ) (xs : List A) (so_far total : List ℕ) (i : ℕ) → length xs ≤ i → so_far ++ flat_map numbers (drop i xs) ≡ total → so_far ≡ total
numbers_done {A} numbers xs so_far total i le before = sym (append-nil so_far) ∙ ap (λ (ys : List A). so_far ++ flat_map numbers ys) (sym (drop_all i xs le)) ∙ before
