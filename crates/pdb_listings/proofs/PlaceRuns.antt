-- Places of addresses that follow one another, as these are counted.
use Rattle.std.proofs.Common.{◌≡◌, ◌≢◌, ℕ, ◌+◌, ◌-◌, ◌^◌, ◌<◌, inl, inr, Bool, true, false, refl, sym, ap, ◌∙◌, arith}
use Rattle.std.specs.Prelude.{Option, None, Some, option_map, ◌==◌, if◌then◌else◌}
use Rattle.std.proofs.lemmas.Bool.{cases_lt, eqb-true, ne_eqb}
use Rattle.pdb_addresses.specs.Addresses.{Map, inner, inner_place}
use Rattle.pdb_addresses.specs.Numbers.{internal_address}
use Rattle.pdb_addresses.specs.Places.{Place, internal_place}
use Rattle.pdb_addresses.specs.SectionRun.{place_on}
use Rattle.pdb_addresses.specs.declared.internal_rva.PdbInternalRva.{PdbInternalRva}
use Rattle.pdb_addresses.specs.declared.internal_section_offset.PdbInternalSectionOffset.{PdbInternalSectionOffset}
use Rattle.pdb_owners.specs.Counts.{is_last}
use Rattle.pdb_owners.specs.Databases.{place_of}
use Rattle.pdb_listings.specs.Runs.{counted_place}

-- no internal address was found
pub none_last : (o : Option ℕ) → None ≡ option_map internal_address o → is_last o ≡ false
none_last None h = refl
none_last (Some y) h = (cc)

-- an internal address was found
pub some_last : (o : Option ℕ) (x : PdbInternalRva) → Some x ≡ option_map internal_address o → is_last o ≡ (x.0 == 2 ^ 32 - 1)
some_last None x h = (cc)
some_last (Some y) x h =
    let e : internal_address y ≡ x = (cc) in
    ap (λ (r : PdbInternalRva). r.0 == 2 ^ 32 - 1) e

last_is : (o : Option ℕ) → is_last o ≡ true → o ≡ Some (2 ^ 32 - 1)
last_is None h = absurd (cc)
last_is (Some x) h = ap Some (eqb-true x (2 ^ 32 - 1) h)

not_last : (o : Option ℕ) → o ≢ Some (2 ^ 32 - 1) → is_last o ≡ false
not_last None h = refl
not_last (Some x) h = ne_eqb x (2 ^ 32 - 1) (λ same. h (ap Some same))

-- an address that becomes 0xffffffff is alone, and has no place
pub last_run : (m : Map) (a n : ℕ) → is_last (inner m a) ≡ true → (1 < n → (k : ℕ) → k < n → inner m (a + k) ≢ Some (2 ^ 32 - 1))
    → (k : ℕ) → k < n → counted_place m (a + k) ≡ None
last_run m a n last alone k lt =
    let e : a + 0 ≡ a = omega arith in
    elim (cases_lt 1 n) [
      | inl more ↦ absurd (alone more 0 (omega arith) (ap (inner m) e ∙ last_is (inner m a) last))
      | inr one ↦ let none : k ≡ 0 = omega arith in rw (none, e, last) refl
    ]

-- a place as it was returned
place_back : (o : Option Place) (p : Option PdbInternalSectionOffset) → p ≡ option_map internal_place o → option_map place_of p ≡ o
place_back None p h = rw h refl
place_back (Some q) p h = rw h refl

-- others have their places
pub other_run : (m : Map) (a n : ℕ) (p : Option PdbInternalSectionOffset) → is_last (inner m a) ≡ false → p ≡ option_map internal_place (inner_place m a)
    → ((k : ℕ) → k < n → inner_place m (a + k) ≡ place_on k (inner_place m a)) → (1 < n → (k : ℕ) → k < n → inner m (a + k) ≢ Some (2 ^ 32 - 1))
    → (k : ℕ) → k < n → counted_place m (a + k) ≡ place_on k (option_map place_of p)
other_run m a n p other is along alone k lt =
    let e : a + 0 ≡ a = omega arith in
    let here : is_last (inner m (a + k)) ≡ false = elim (cases_lt 1 n) [
      | inl more ↦ not_last (inner m (a + k)) (alone more k lt)
      | inr one ↦ let none : k ≡ 0 = omega arith in rw (none, e) other
    ] in
    ap (λ (b : Bool). if b then None else inner_place m (a + k)) here ∙ along k lt ∙ ap (place_on k) (sym (place_back (inner_place m a) p is))
