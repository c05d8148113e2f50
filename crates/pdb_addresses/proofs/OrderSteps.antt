-- The greatest ends of sections, and the section that they find.
use Rattle.std.proofs.Common.{◌≡◌, ℕ, zero, suc, ◌+◌, ◌-◌, ◌<◌, ◌≤◌, max, List, [], ◌∷◌, ◌++◌}
use Rattle.std.proofs.Common.{length, get_or, drop, refl, sym, ap, subst, ◌∙◌, append_assoc, arith}
use Rattle.std.specs.Prelude.{None}
use Rattle.std.specs.List.{AllWithin}
use Rattle.std.specs.List.Sorted.{IsNonDecreasing}
use Rattle.std.proofs.lemmas.Bool.{lt-ltb, le-ltb}
use Rattle.std.proofs.lemmas.List.{append-nil, drop_more, drop_all}
use Rattle.pdb_addresses.specs.declared.sections.ImageSectionHeader.{ImageSectionHeader}
use Rattle.pdb_addresses.specs.SectionOrder.{end_of, greatest_ends}
use Rattle.pdb_addresses.specs.Sections.{place_in, place_from, place}

-- ---- the greatest ends

-- one for each section
pub length_ends : (far : ℕ) (sections : List ImageSectionHeader)
    → length (greatest_ends far sections) ≡ length sections
length_ends far [] = refl
length_ends far (s ∷ sections) = let e = length_ends (max far (end_of s)) sections in omega arith

no_lower : (far : ℕ) (sections : List ImageSectionHeader) (i d : ℕ) → i < length sections
    → far ≤ get_or (greatest_ends far sections) i d
no_lower far [] i d lt = absurd (omega arith)
no_lower far (s ∷ sections) zero d lt = omega arith
no_lower far (s ∷ sections) (suc i) d lt = let le =
    no_lower (max far (end_of s)) sections i d (omega arith) in omega arith

risen : (far : ℕ) (sections : List ImageSectionHeader) (i j d : ℕ) → i ≤ j → j < length sections
    → get_or (greatest_ends far sections) i d ≤ get_or (greatest_ends far sections) j d
risen far [] i j d le lt = absurd (omega arith)
risen far (s ∷ sections) zero zero d le lt = omega arith
risen far (s ∷ sections) zero (suc j) d le lt =
    no_lower (max far (end_of s)) sections j d (omega arith)
risen far (s ∷ sections) (suc i) zero d le lt = absurd (omega arith)
risen far (s ∷ sections) (suc i) (suc j) d le lt =
    risen (max far (end_of s)) sections i j d (omega arith) (omega arith)

-- they don't fall
pub ends_rise : (sections : List ImageSectionHeader) (ends : List ℕ)
    → ends ≡ greatest_ends 0 sections → IsNonDecreasing ends
ends_rise sections ends is =
    rw is (λ i j d le lt. let len = length_ends 0 sections in
    risen 0 sections i j d le (omega arith))

-- no section was gone over
pub ends_start : (sections : List ImageSectionHeader)
    → [] ++ greatest_ends 0 (drop 0 sections) ≡ greatest_ends 0 sections
ends_start sections = refl

-- one section more
pub ends_more : (sections : List ImageSectionHeader) (i far : ℕ) (ends total : List ℕ)
    (d : ImageSectionHeader) → i < length sections
    → ends ++ greatest_ends far (drop i sections) ≡ total
    → ends ++ max far (end_of (get_or sections i d)) ∷ []
    ++ greatest_ends (max far (end_of (get_or sections i d))) (drop (i + 1) sections) ≡ total
ends_more sections i far ends total d lt so_far =
    append_assoc ends (max far (end_of (get_or sections i d)) ∷ [])
    (greatest_ends (max far (end_of (get_or sections i d))) (drop (i + 1) sections))
    ∙ sym (ap (λ (xs : List ImageSectionHeader). ends ++ greatest_ends far xs)
    (drop_more sections i d lt)) ∙ so_far

-- all sections
pub ends_done : (sections : List ImageSectionHeader) (i far : ℕ) (ends total : List ℕ)
    → length sections ≤ i → ends ++ greatest_ends far (drop i sections) ≡ total → ends ≡ total
ends_done sections i far ends total past so_far =
    sym (append-nil ends)
    ∙ sym (ap (λ (xs : List ImageSectionHeader). ends ++ greatest_ends far xs)
    (drop_all i sections past)) ∙ so_far

-- ---- the section that they find

-- sections whose greatest ends lie at or below the address don't hold it
behind : (sections : List ImageSectionHeader) (number far a n : ℕ)
    → ((k d : ℕ) → k < n → get_or (greatest_ends far sections) k d ≤ a) → n ≤ length sections
    → place_from number sections a ≡ place_from (number + n) (drop n sections) a
behind sections number far a zero before le = let e : number + 0 ≡ number = omega arith in rw e refl
behind [] number far a (suc n) before le = refl
behind (s ∷ sections) number far a (suc n) before le =
    let low = before 0 0 (omega arith) in
    let e : number + suc n ≡ number + 1 + n = omega arith in
    rw (
      e,
      le-ltb a s.virtual_address (omega arith),
      le-ltb (a - s.virtual_address) s.virtual_size (omega arith),
    )
    (behind sections (number + 1) (max far (end_of s)) a n
    (λ k d lt. before (suc k) d (omega arith)) (omega arith))

-- the first whose greatest end lies past the address ends there
ends_past : (sections : List ImageSectionHeader) (far a n : ℕ) (d : ImageSectionHeader) → far ≤ a
    → ((k e : ℕ) → k < n → get_or (greatest_ends far sections) k e ≤ a) → n < length sections
    → a < get_or (greatest_ends far sections) n 0 → a < end_of (get_or sections n d)
ends_past [] far a n d le before lt beyond = absurd (omega arith)
ends_past (s ∷ sections) far a zero d le before lt beyond = omega arith
ends_past (s ∷ sections) far a (suc n) d le before lt beyond =
    ends_past sections (max far (end_of s)) a n d (before 0 0 (omega arith))
    (λ k e l. before (suc k) e (omega arith)) (omega arith) beyond

-- how many greatest ends lie at or below an address
pub record ArePassed (sections : List ImageSectionHeader) (ends : List ℕ) (a n : ℕ) : Type 0 where
  pub is : ends ≡ greatest_ends 0 sections
  pub low : AllWithin (λ e. e ≤ a) ends 0 n
  pub high : AllWithin (λ e. a < e) ends n (length ends)

passed_of : (sections : List ImageSectionHeader) (ends : List ℕ) (a n k d : ℕ)
    → ArePassed sections ends a n → k < n → get_or (greatest_ends 0 sections) k d ≤ a
passed_of sections ends a n k d p lt =
    subst (λ (es : List ℕ). get_or es k d ≤ a) p.is (p.low k d (omega arith) lt)

-- all sections are passed: the address has no place
pub none_holds : (sections : List ImageSectionHeader) (ends : List ℕ) (a n : ℕ) → n ≤ length ends
    → length sections ≤ n → ArePassed sections ends a n → place sections a ≡ None
none_holds sections ends a n le past p =
    let len = ap length p.is ∙ length_ends 0 sections in
    behind sections 1 0 a n (λ k d lt. passed_of sections ends a n k d p lt) (omega arith)
    ∙ ap (λ (xs : List ImageSectionHeader). place_from (1 + n) xs a) (drop_all n sections past)

found : (sections : List ImageSectionHeader) (ends : List ℕ) (a n : ℕ) (d : ImageSectionHeader)
    → n < length sections → ArePassed sections ends a n
    → place sections a ≡ place_from (1 + n) (get_or sections n d ∷ drop (n + 1) sections) a
found sections ends a n d lt p =
    behind sections 1 0 a n (λ k e l. passed_of sections ends a n k e p l) (omega arith)
    ∙ ap (λ (xs : List ImageSectionHeader). place_from (1 + n) xs a) (drop_more sections n d lt)

-- the one that they find begins past the address: it has no place
pub begins_past : (sections : List ImageSectionHeader) (ends : List ℕ) (a n : ℕ)
    (d : ImageSectionHeader) → n < length sections → a < (get_or sections n d).virtual_address
    → ArePassed sections ends a n → place sections a ≡ None
begins_past sections ends a n d lt below p = found sections ends a n d lt p
    ∙ rw (lt-ltb a (get_or sections n d).virtual_address below) refl

-- and else it holds the address
pub holds : (sections : List ImageSectionHeader) (ends : List ℕ) (a n : ℕ) (d : ImageSectionHeader)
    → n < length sections → (get_or sections n d).virtual_address ≤ a
    → ArePassed sections ends a n → place sections a
    ≡ place_in (n + 1) (a - (get_or sections n d).virtual_address)
holds sections ends a n d lt above p =
    let len = ap length p.is ∙ length_ends 0 sections in
    let beyond : a < get_or (greatest_ends 0 sections) n 0 =
    subst (λ (es : List ℕ). a < get_or es n 0) p.is (p.high n 0 (omega arith) (omega arith)) in
    let end = ends_past sections 0 a n d (omega arith)
    (λ k e l. passed_of sections ends a n k e p l) lt beyond in
    let one : 1 + n ≡ n + 1 = omega arith in
    found sections ends a n d lt p
    ∙ rw (
      one,
      le-ltb a (get_or sections n d).virtual_address above,
      lt-ltb (a - (get_or sections n d).virtual_address) (get_or sections n d).virtual_size
          (omega arith),
    ) refl
