-- The place of an address has that address.
use Rattle.std.proofs.Common.{◌≡◌, ◌≢◌, ℕ, suc, ◌+◌, ◌-◌, ◌^◌, ◌<◌, ◌≤◌, inl, inr, List, [], ◌∷◌}
use Rattle.std.proofs.Common.{refl, sym, ap, ◌∙◌, arith}
use Rattle.std.specs.Prelude.{None, Some, slice_get}
use Rattle.std.proofs.lemmas.Bool.{lt-ltb, le-ltb, le-leb, lt-leb, ne_eqb, cases_lt}
use Rattle.pdb_addresses.specs.declared.sections.ImageSectionHeader.{ImageSectionHeader}
use Rattle.pdb_addresses.specs.Places.{Place}
use Rattle.pdb_addresses.specs.Sections.{place_in, place_from, place, address}

-- the section of a place, at an index of the list
record Found (sections : List ImageSectionHeader) (number a : ℕ) (p : Place) : Type 0 where
  index : ℕ
  section : ImageSectionHeader
  there : slice_get sections index ≡ Some section
  numbered : p.section ≡ number + index
  low : section.virtual_address ≤ a
  offset : p.offset ≡ a - section.virtual_address

in_place : (number offset : ℕ) (p : Place) → place_in number offset ≡ Some p
    → (p.section ≡ number) × (p.offset ≡ offset)
in_place number offset p e = elim (cases_lt 65535 number) [
  | inl past ↦ let none : place_in number offset ≡ None =
      rw (lt-leb number 65535 past) refl in absurd cc
  | inr low ↦
      let some : place_in number offset ≡ Some (record { section = number; offset = offset }) =
      rw (le-leb number 65535 low) refl in
      let same : record { section = number; offset = offset } ≡ p = cc in
      (sym (ap (λ (q : Place). q.section) same), sym (ap (λ (q : Place). q.offset) same))
]

found : (sections : List ImageSectionHeader) (number a : ℕ) (p : Place)
    → place_from number sections a ≡ Some p → Found sections number a p
found [] number a p e = absurd cc
found (s ∷ sections) number a p e = elim (cases_lt a s.virtual_address) [
  | inl before ↦ let none : place_from number (s ∷ sections) a ≡ None =
      rw (lt-ltb a s.virtual_address before) refl in absurd cc
  | inr low ↦ elim (cases_lt (a - s.virtual_address) s.virtual_size) [
    | inl held ↦
        let here : place_from number (s ∷ sections) a ≡ place_in number (a - s.virtual_address) =
        rw (le-ltb a s.virtual_address low, lt-ltb (a - s.virtual_address) s.virtual_size held)
        refl in
        let at = in_place number (a - s.virtual_address) p (sym here ∙ e) in
        record {
          index = 0;
          section = s;
          there = refl;
          numbered = at.0
              ∙ omega arith;
          low = low;
          offset = at.1;
        }
    | inr past ↦
        let on : place_from number (s ∷ sections) a ≡ place_from (number + 1) sections a =
        rw (le-ltb a s.virtual_address low, le-ltb (a - s.virtual_address) s.virtual_size past)
        refl in
        let f = found sections (number + 1) a p (sym on ∙ e) in
        record {
          index = suc f.index;
          section = f.section;
          there = f.there;
          numbered = f.numbered
              ∙ omega arith;
          low = f.low;
          offset = f.offset;
        }
  ]
]

back : (sections : List ImageSectionHeader) (a section offset index : ℕ) (s : ImageSectionHeader)
    → slice_get sections index ≡ Some s → section ≡ 1 + index → s.virtual_address ≤ a
    → offset ≡ a - s.virtual_address → a < 2 ^ 32 → address sections section offset ≡ Some a
back sections a section offset index s there numbered low is small =
    let n : section - 1 ≡ index = omega arith in
    let some : section ≢ 0 = λ z. omega arith in
    let sum : s.virtual_address + offset ≡ a = omega arith in
    rw (ne_eqb section 0 some, n, there, sum, lt-ltb a (2 ^ 32) small) refl

-- the place of an address has that address
pub there_and_back : (sections : List ImageSectionHeader) (a : ℕ) (p : Place) → a < 2 ^ 32
    → place sections a ≡ Some p → address sections p.section p.offset ≡ Some a
there_and_back sections a p small e =
    let f = found sections 1 a p e in
    back sections a p.section p.offset f.index f.section f.there f.numbered f.low f.offset small
