-- What stands as failed once one more part is stored.
use Rattle.std.proofs.Common.{◌≡◌, ℕ, ◌^◌, ◌<◌, ◌⊎◌, inl, inr, Bool, true, false, ◌||◌, List, [], ◌∷◌, refl, sym, ap, ◌∙◌, subst, arith}
use Rattle.std.specs.Prelude.{◌==◌}
use Rattle.std.specs.declared.cmp.Ordering.{Ordering}
use Rattle.std.specs.declared.cmp.Ordering.TheVariants.{Less, Equal, Greater}
use Rattle.std.specs.BTreeMap.{is_at}
use Rattle.std.specs.BTreeSet.{insert_key}
use Rattle.std.specs.List.{list_any}
use Rattle.std.specs.Ordering.{is_eq, match_ordering, nat_cmp}
use Rattle.std.proofs.lemmas.Bool.{eq-eqb, eqb-true, ne_eqb}
use Rattle.std.proofs.lemmas.Cmp.{nat_cmp_total, tied_itself}
use Rattle.std.proofs.lemmas.Map.Lookups.{exact_unsigned}
use Rattle.pdb_addresses.specs.declared.internal_section_offset.PdbInternalSectionOffset.{PdbInternalSectionOffset}
use Rattle.pdb_resolving.specs.Failed.{stands, with_part}
use Rattle.pdb_resolving.specs.Failures.{Failures, Part, ExtendedModule, ProcedureLines, ProcedureInlineRanges, IsPart, IsPlace, has_failed, number_of, with_failed}

-- ---- numbers

number_at : (a b : ℕ) (o : Ordering) → nat_cmp a b ≡ o → is_eq o ≡ (a == b)
number_at a b Less h = sym (ne_eqb a b (λ same. let itself : nat_cmp a b ≡ Equal = subst (λ (x : ℕ). nat_cmp a x ≡ Equal) same (tied_itself nat_cmp_total a) in (cc)))
number_at a b Equal h = sym (eq-eqb a b (exact_unsigned a b h))
number_at a b Greater h = sym (ne_eqb a b (λ same. let itself : nat_cmp a b ≡ Equal = subst (λ (x : ℕ). nat_cmp a x ≡ Equal) same (tied_itself nat_cmp_total a) in (cc)))

is_number : (a b : ℕ) → is_at (nat_cmp a) b ≡ (a == b)
is_number a b = number_at a b (nat_cmp a b) refl

twice : (b c : Bool) → b || c ≡ b || (b || c)
twice true c = refl
twice false c = refl

either_way : (a b c : Bool) → a || (b || c) ≡ b || (a || c)
either_way true true c = refl
either_way true false c = refl
either_way false b c = refl

first_or_later : (test : ℕ → Bool) (number x : ℕ) (xs more : List ℕ) (o : Ordering) → nat_cmp number x ≡ o → list_any test more ≡ (test number || list_any test xs)
    → list_any test (match_ordering o (number ∷ x ∷ xs) (x ∷ xs) (x ∷ more)) ≡ (test number || (test x || list_any test xs))
first_or_later test number x xs more Less at h = refl
first_or_later test number x xs more Equal at h =
    let same : number ≡ x = exact_unsigned number x at in
    subst (λ (n : ℕ). (test x || list_any test xs) ≡ (test n || (test x || list_any test xs))) (sym same) (twice (test x) (list_any test xs))
first_or_later test number x xs more Greater at h = ap (λ (b : Bool). test x || b) h ∙ either_way (test x) (test number) (list_any test xs)

any_of_kept : (test : ℕ → Bool) (failed : List ℕ) (number : ℕ) → list_any test (insert_key nat_cmp failed number) ≡ (test number || list_any test failed)
any_of_kept test [] number = refl
any_of_kept test (x ∷ xs) number = first_or_later test number x xs (insert_key nat_cmp xs number) (nat_cmp number x) refl (any_of_kept test xs number)

pub stands_with : (failed : List ℕ) (number other : ℕ) → stands (with_part failed number) other ≡ ((other == number) || stands failed other)
stands_with failed number other = any_of_kept (is_at (nat_cmp other)) failed number ∙ ap (λ (b : Bool). b || stands failed other) (is_number other number)

kept_stands : (failed : List ℕ) (number : ℕ) → stands (with_part failed number) number ≡ true
kept_stands failed number = stands_with failed number number ∙ ap (λ (b : Bool). b || stands failed number) (eq-eqb number number refl)

or_right : (a b : Bool) → b ≡ true → a || b ≡ true
or_right true b h = refl
or_right false b h = h

still_stands : (failed : List ℕ) (number other : ℕ) → stands failed other ≡ true → stands (with_part failed number) other ≡ true
still_stands failed number other h = stands_with failed number other ∙ or_right (other == number) (stands failed other) h

or_cases : (a b : Bool) → a || b ≡ true → (a ≡ true) ⊎ (b ≡ true)
or_cases true b h = inl refl
or_cases false b h = inr h

no_other_stands : (failed : List ℕ) (number other : ℕ) → stands (with_part failed number) other ≡ true → (other ≡ number) ⊎ (stands failed other ≡ true)
no_other_stands failed number other h = elim (or_cases (other == number) (stands failed other) (sym (stands_with failed number other) ∙ h)) [
  | inl same ↦ inl (eqb-true other number same)
  | inr stood ↦ inr stood
]

-- ---- places

pub own_numbers : (m n : ℕ) (p q : PdbInternalSectionOffset) → IsPlace p → IsPlace q → number_of m p ≡ number_of n q → (m ≡ n) × (p ≡ q)
own_numbers m n p q fits_p fits_q h =
    let s : p.section < 2 ^ 16 = fits_p.0 in
    let o : p.offset < 2 ^ 32 = fits_p.1 in
    let t : q.section < 2 ^ 16 = fits_q.0 in
    let r : q.offset < 2 ^ 32 = fits_q.1 in
    let modules : m ≡ n = omega arith in
    let sections : p.section ≡ q.section = omega arith in
    let offsets : p.offset ≡ q.offset = omega arith in (
      modules,
      ap (λ (x : ℕ). let place : PdbInternalSectionOffset = record { offset = x; section = p.section } in place) offsets
          ∙ ap (λ (x : ℕ). let place : PdbInternalSectionOffset = record { offset = q.offset; section = x } in place) sections,
    )

-- ---- parts

pub kept_part_stands : (f : Failures) (part : Part) → has_failed (with_failed f part) part ≡ true
kept_part_stands f (ExtendedModule m) = kept_stands f.modules m
kept_part_stands f (ProcedureLines m start) = kept_stands f.lines (number_of m start)
kept_part_stands f (ProcedureInlineRanges m start) = kept_stands f.inline_ranges (number_of m start)

pub part_still_stands : (f : Failures) (part other : Part) → has_failed f other ≡ true → has_failed (with_failed f part) other ≡ true
part_still_stands f (ExtendedModule m) (ExtendedModule n) h = still_stands f.modules m n h
part_still_stands f (ProcedureLines m start) (ProcedureLines n place) h = still_stands f.lines (number_of m start) (number_of n place) h
part_still_stands f (ProcedureInlineRanges m start) (ProcedureInlineRanges n place) h = still_stands f.inline_ranges (number_of m start) (number_of n place) h
part_still_stands f (ExtendedModule m) (ProcedureLines n place) h = h
part_still_stands f (ExtendedModule m) (ProcedureInlineRanges n place) h = h
part_still_stands f (ProcedureLines m start) (ExtendedModule n) h = h
part_still_stands f (ProcedureLines m start) (ProcedureInlineRanges n place) h = h
part_still_stands f (ProcedureInlineRanges m start) (ExtendedModule n) h = h
part_still_stands f (ProcedureInlineRanges m start) (ProcedureLines n place) h = h

by_number : (make : ℕ → PdbInternalSectionOffset → Part) (failed : List ℕ) (m n : ℕ) (p q : PdbInternalSectionOffset) → IsPlace p → IsPlace q → stands (with_part failed (number_of m p)) (number_of n q) ≡ true
    → (make n q ≡ make m p) ⊎ (stands failed (number_of n q) ≡ true)
by_number make failed m n p q fits_p fits_q h = elim (no_other_stands failed (number_of m p) (number_of n q) h) [
  | inl same ↦ let own = own_numbers n m q p fits_q fits_p same in inl (ap (λ (x : ℕ). make x q) own.0 ∙ ap (λ (x : PdbInternalSectionOffset). make m x) own.1)
  | inr stood ↦ inr stood
]

by_module : (failed : List ℕ) (m n : ℕ) → stands (with_part failed m) n ≡ true → (ExtendedModule n ≡ ExtendedModule m) ⊎ (stands failed n ≡ true)
by_module failed m n h = elim (no_other_stands failed m n h) [
  | inl same ↦ inl (ap ExtendedModule same)
  | inr stood ↦ inr stood
]

pub no_other_part_stands : (f : Failures) (part other : Part) → IsPart part → IsPart other → has_failed (with_failed f part) other ≡ true → (other ≡ part) ⊎ (has_failed f other ≡ true)
no_other_part_stands f (ExtendedModule m) (ExtendedModule n) a b h = by_module f.modules m n h
no_other_part_stands f (ProcedureLines m start) (ProcedureLines n place) a b h = by_number ProcedureLines f.lines m n start place a b h
no_other_part_stands f (ProcedureInlineRanges m start) (ProcedureInlineRanges n place) a b h = by_number ProcedureInlineRanges f.inline_ranges m n start place a b h
no_other_part_stands f (ExtendedModule m) (ProcedureLines n place) a b h = inr h
no_other_part_stands f (ExtendedModule m) (ProcedureInlineRanges n place) a b h = inr h
no_other_part_stands f (ProcedureLines m start) (ExtendedModule n) a b h = inr h
no_other_part_stands f (ProcedureLines m start) (ProcedureInlineRanges n place) a b h = inr h
no_other_part_stands f (ProcedureInlineRanges m start) (ExtendedModule n) a b h = inr h
no_other_part_stands f (ProcedureInlineRanges m start) (ProcedureLines n place) a b h = inr h
