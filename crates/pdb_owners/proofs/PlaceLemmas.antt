-- Steps along the places of a section, and along the addresses of a range.
use Rattle.std.proofs.Common.{◌≡◌, ℕ, ◌+◌, ◌-◌, ◌^◌, ◌<◌, ◌≤◌, min, inl, inr, Bool, true, false, cond, ◌||◌, ltb, leb, List, [], ◌∷◌, length, refl, sym, ap, ◌∙◌, subst, arith}
use Rattle.std.specs.Prelude.{Option, None, Some, option_map, option_and_then, ◌==◌}
use Rattle.std.specs.List.{list_any}
use Rattle.std.proofs.Math.Bool.{or-true}
use Rattle.std.proofs.lemmas.Bool.{lt-ltb, le-ltb, eq-eqb, eqb-true, cases_lt}
use Rattle.pdb_addresses.specs.declared.internal_section_offset.PdbInternalSectionOffset.{PdbInternalSectionOffset}
use Rattle.pdb_addresses.specs.declared.sections.ImageSectionHeader.{ImageSectionHeader}
use Rattle.pdb_addresses.specs.Places.{Place, internal_place}
use Rattle.pdb_addresses.specs.SectionRun.{nearer, up_to_next, place_on}
use Rattle.pdb_addresses.specs.Sections.{place_in, place_from, place}
use Rattle.pdb_owners.specs.Counts.{answer_at, answer_along, begins, begins_along, is_section_bound, is_bound_in}
use Rattle.pdb_owners.specs.Databases.{Database, IsOneRun, Keyed, on, place_of}
use Rattle.pdb_owners.specs.Table.{IsAdded, IsCounted, IsWithin}
use Rattle.pdb_owners.proofs.CountLemmas.{counted_start, counted_more, counted_run, counted_none, counted_along, within_one, within_more, within_along}

-- ---- along the places from one on

pub places_counted : {K A : Type 0} (kd now : Keyed K A) (p : Place) (d limit n : ℕ) (key : Option K) (t u w : List (K × ℕ)) → now ≡ kd → IsOneRun now.places (on p d) limit n
    → option_and_then now.answer_of key ≡ (now.places).answer (on p d) → IsAdded u key n w
    → IsCounted kd.answer_of (answer_along kd.places (Some p)) 0 d t u → IsCounted kd.answer_of (answer_along kd.places (Some p)) 0 (d + n) t w
places_counted {K} {A} kd now p d limit n key t u w same run at add so_far =
    let r : IsOneRun kd.places (on p d) limit n = subst (λ (b : Keyed K A). IsOneRun b.places (on p d) limit n) same run in
    let a : option_and_then kd.answer_of key ≡ (kd.places).answer (on p d) = subst (λ (b : Keyed K A). option_and_then b.answer_of key ≡ (b.places).answer (on p d)) same at in
    counted_more kd.answer_of (answer_along kd.places (Some p)) 0 d n t u w so_far
    (counted_run kd.answer_of (answer_along kd.places (Some p)) (0 + d) n key u w
    (λ k lt. let e : p.offset + (0 + d + k) ≡ p.offset + d + k = omega arith in
    let f : answer_along kd.places (Some p) (0 + d + k) ≡ (kd.places).answer (on (on p d) k) = ap (λ (x : ℕ). let q : Place = record { section = p.section; offset = x } in (kd.places).answer q) e in
    f ∙ r.alike k lt ∙ sym a)
    add)

pub places_within : {A : Type 0} (db : Database A) (p : Place) (d n x y z : ℕ) → IsWithin (begins_along db (Some p)) 0 d x y → begins_along db (Some p) d ≡ true → 1 ≤ n → z ≡ min (y + 1) (2 ^ 64 - 1)
    → IsWithin (begins_along db (Some p)) 0 (d + n) x z
places_within db p d n x y z h passes some more =
    let e : d ≡ 0 + d = omega arith in
    within_one (begins_along db (Some p)) 0 d n x y z h (subst (λ (j : ℕ). begins_along db (Some p) j ≡ true) e passes) some (omega arith)

-- one more key at most for the run of a piece
pub keys_within : {K A : Type 0} (db : Database A) (p : Place) (d n : ℕ) (key : Option K) (m : ℕ) (t u w : List (K × ℕ)) → IsWithin (begins_along db (Some p)) 0 d (length t) (length u) → begins_along db (Some p) d ≡ true → 1 ≤ n
    → IsAdded u key m w → IsWithin (begins_along db (Some p)) 0 (d + n) (length t) (length w)
keys_within db p d n key m t u w h passes some add =
    let e : d ≡ 0 + d = omega arith in
    within_one (begins_along db (Some p)) 0 d n (length t) (length u) (length w) h (subst (λ (j : ℕ). begins_along db (Some p) j ≡ true) e passes) some add.few

pub place_begins : {A : Type 0} (db now : Database A) (p : Place) (d c n : ℕ) → now ≡ db → IsOneRun now (on p d) (c - d) n → d + n < c → begins_along db (Some p) (d + n) ≡ true
place_begins {A} db now p d c n same run lt =
    let r : IsOneRun db (on p d) (c - d) n = subst (λ (b : Database A). IsOneRun b (on p d) (c - d) n) same run in
    let e : p.offset + d + n ≡ p.offset + (d + n) = omega arith in
    let f : db.is_bound (on p (d + n)) ≡ true = ap (λ (x : ℕ). let q : Place = record { section = p.section; offset = x } in db.is_bound q) (sym e) ∙ r.ends (omega arith) in
    ap (λ (b : Bool). (d + n == 0) || b) f ∙ or-true (d + n == 0)

pub places_same : {K A : Type 0} (kd now : Keyed K A) → now ≡ kd → now.places ≡ kd.places
places_same kd now same = ap (λ k. k.places) same

-- ---- along the addresses from one on that go by one section, or by none

pub internal_back : (o : Option Place) (p : PdbInternalSectionOffset) → Some p ≡ option_map internal_place o → o ≡ Some (place_of p)
internal_back None p h = (cc)
internal_back (Some q) p h = let e : internal_place q ≡ p = (cc) in ap (λ (r : PdbInternalSectionOffset). Some (place_of r)) e

pub internal_none : (o : Option Place) → None ≡ option_map internal_place o → o ≡ None
internal_none None h = refl
internal_none (Some q) h = (cc)

pub section_none : {K A : Type 0} (found : K → Option A) (sections : List ImageSectionHeader) (db : Database A) (x n : ℕ) (t : List (K × ℕ)) → place sections x ≡ None → ((k : ℕ) → k < n → place sections (x + k) ≡ place_on k (place sections x))
    → IsCounted found (answer_at sections db) x n t t
section_none found sections db x n t none along = counted_none found (answer_at sections db) x n t (λ k lt. ap (option_and_then db.answer) (along k lt ∙ ap (place_on k) none))

pub section_counted : {K A : Type 0} (found : K → Option A) (sections : List ImageSectionHeader) (db : Database A) (p : Place) (x n : ℕ) (t u : List (K × ℕ)) → place sections x ≡ Some p → ((k : ℕ) → k < n → place sections (x + k) ≡ place_on k (place sections x))
    → IsCounted found (answer_along db (Some p)) 0 n t u → IsCounted found (answer_at sections db) x n t u
section_counted found sections db p x n t u there along h = counted_along found (answer_along db (Some p)) (answer_at sections db) 0 x n t u
    (λ k lt. let z : 0 + k ≡ k = omega arith in ap (option_and_then db.answer) (along k lt ∙ ap (place_on k) there) ∙ ap (answer_along db (Some p)) (sym z)) h

first_or : (a first other b : Bool) → (a ≡ true → first ≡ true) → (a || b) ≡ true → (first || (other || b)) ≡ true
first_or true first other b h g = ap (λ (c : Bool). c || (other || b)) (h refl)
first_or false first other b h g = ap (λ (c : Bool). first || (other || c)) g ∙ ap (λ (c : Bool). first || c) (or-true other) ∙ or-true first

pub section_within : {A : Type 0} (sections : List ImageSectionHeader) (db : Database A) (p : Place) (x n y z : ℕ) → place sections x ≡ Some p → ((k : ℕ) → k < n → place sections (x + k) ≡ place_on k (place sections x))
    → IsWithin (begins_along db (Some p)) 0 n y z → IsWithin (begins sections db x) x n y z
section_within sections db p x n y z there along h = within_along (begins sections db x) (begins_along db (Some p)) x 0 n y z h
    (λ k lt passes.
    let e : 0 + k ≡ k = omega arith in
    let at : place sections (x + k) ≡ place_on k (Some p) = along k lt ∙ ap (place_on k) there in
    let passing : ((k == 0) || is_bound_in db (place_on k (Some p))) ≡ true = subst (λ (j : ℕ). begins_along db (Some p) j ≡ true) e passes in
    subst (λ (q : Option Place). ((x + k == x) || (is_section_bound sections (x + k) || is_bound_in db q)) ≡ true) (sym at)
    (first_or (k == 0) (x + k == x) (is_section_bound sections (x + k)) (is_bound_in db (place_on k (Some p)))
    (λ none. let zeroth : k ≡ 0 = eqb-true k 0 none in eq-eqb (x + k) x (omega arith)) passing))

by_number : (b : Bool) (number offset x : ℕ) (p : Place) → offset ≤ x → cond b (let q : Place = record { section = number; offset = offset } in Some q) None ≡ Some p → p.offset ≤ x
by_number true number offset x p le e = let f : offset ≡ p.offset = (cc) in omega arith
by_number false number offset x p le e = absurd (cc)

by_holding : (b : Bool) (number offset x : ℕ) (others : Option Place) (p : Place) → offset ≤ x → (others ≡ Some p → p.offset ≤ x) → cond b (place_in number offset) others ≡ Some p → p.offset ≤ x
by_holding true number offset x others p le h e = by_number (leb number 65535) number offset x p le e
by_holding false number offset x others p le h e = h e

-- an offset is at most its address
offset_from : (sections : List ImageSectionHeader) (number x : ℕ) (p : Place) → place_from number sections x ≡ Some p → p.offset ≤ x
offset_from [] number x p h = absurd (cc)
offset_from (s ∷ sections) number x p h = elim (cases_lt x s.virtual_address) [
  | inl low ↦ let none : None ≡ Some p = sym (ap (λ (b : Bool). cond b None (cond (ltb (x - s.virtual_address) s.virtual_size) (place_in number (x - s.virtual_address)) (place_from (number + 1) sections x))) (lt-ltb x s.virtual_address low)) ∙ h in absurd (cc)
  | inr high ↦
      let first : cond (ltb (x - s.virtual_address) s.virtual_size) (place_in number (x - s.virtual_address)) (place_from (number + 1) sections x) ≡ Some p =
      sym (ap (λ (b : Bool). cond b None (cond (ltb (x - s.virtual_address) s.virtual_size) (place_in number (x - s.virtual_address)) (place_from (number + 1) sections x))) (le-ltb x s.virtual_address high)) ∙ h in
      by_holding (ltb (x - s.virtual_address) s.virtual_size) number (x - s.virtual_address) x (place_from (number + 1) sections x) p (omega arith) (offset_from sections (number + 1) x p) first
]

pub offset_below : (sections : List ImageSectionHeader) (x : ℕ) (p : Place) → place sections x ≡ Some p → p.offset ≤ x
offset_below sections x p h = offset_from sections 1 x p h

nearer_le : (x b limit far : ℕ) → far ≤ limit → nearer x b far ≤ limit
nearer_le x b limit far h = elim (cases_lt x b) [
  | inl low ↦ rw (lt-ltb x b low) (omega arith)
  | inr high ↦ rw (le-ltb x b high) h
]

pub up_to_next-le : (bs : List ℕ) (x limit : ℕ) → up_to_next bs x limit ≤ limit
up_to_next-le [] x limit = omega arith
up_to_next-le (b ∷ bs) x limit = nearer_le x b limit (up_to_next bs x limit) (up_to_next-le bs x limit)

-- where a run of a section ends before its limit, a section starts or ends
pub next_is_bound : (bs : List ℕ) (x limit n : ℕ) → n ≡ up_to_next bs x limit → n < limit → list_any (λ b. x + n == b) bs ≡ true
next_is_bound [] x limit n e lt = absurd (omega arith)
next_is_bound (b ∷ bs) x limit n e lt = elim (cases_lt x b) [
  | inl low ↦
      let g : n ≡ min (up_to_next bs x limit) (b - x) = rw (lt-ltb x b low) at e in
      elim (cases_lt (up_to_next bs x limit) (b - x)) [
        | inl near ↦ ap (λ (c : Bool). (x + n == b) || c) (next_is_bound bs x limit n (omega arith) lt) ∙ or-true (x + n == b)
        | inr far ↦ let here : (x + n == b) ≡ true = eq-eqb (x + n) b (omega arith) in rw here refl
      ]
  | inr high ↦
      let g : n ≡ up_to_next bs x limit = rw (le-ltb x b high) at e in
      ap (λ (c : Bool). (x + n == b) || c) (next_is_bound bs x limit n g lt) ∙ or-true (x + n == b)
]

-- ---- along a range

-- the same by what answers as before
pub counted_same : {K A : Type 0} (kd now : Keyed K A) (sections : List ImageSectionHeader) (x n : ℕ) (t u : List (K × ℕ)) → now ≡ kd
    → IsCounted now.answer_of (answer_at sections now.places) x n t u → IsCounted kd.answer_of (answer_at sections kd.places) x n t u
counted_same {K} {A} kd now sections x n t u same h = subst (λ (k : Keyed K A). IsCounted k.answer_of (answer_at sections k.places) x n t u) same h

pub within_same : {K A : Type 0} (kd now : Keyed K A) (sections : List ImageSectionHeader) (first x n y z : ℕ) → now ≡ kd
    → IsWithin (begins sections now.places first) x n y z → IsWithin (begins sections kd.places first) x n y z
within_same {K} {A} kd now sections first x n y z same h = subst (λ (k : Keyed K A). IsWithin (begins sections k.places first) x n y z) same h

pub range_counted : {K A : Type 0} (found : K → Option A) (answer : ℕ → Option A) (r x n : ℕ) (t u w : List (K × ℕ)) → r ≤ x → IsCounted found answer r (x - r) t u → IsCounted found answer x n u w → IsCounted found answer r (x + n - r) t w
range_counted found answer r x n t u w le h g =
    let e : x ≡ r + (x - r) = omega arith in
    let f : x - r + n ≡ x + n - r = omega arith in
    subst (λ (m : ℕ). IsCounted found answer r m t w) f (counted_more found answer r (x - r) n t u w h (subst (λ (y : ℕ). IsCounted found answer y n u w) e g))

first_else : (p q rest : Bool) → (p ≡ true → (q || rest) ≡ true) → (p || rest) ≡ true → (q || rest) ≡ true
first_else true q rest h g = h refl
first_else false q rest h g = ap (λ (c : Bool). q || c) g ∙ or-true q

pub range_within : {A : Type 0} (sections : List ImageSectionHeader) (db : Database A) (r x n a b c : ℕ) → r ≤ x → begins sections db r x ≡ true
    → IsWithin (begins sections db r) r (x - r) a b → IsWithin (begins sections db x) x n b c → IsWithin (begins sections db r) r (x + n - r) a c
range_within sections db r x n a b c le at h g =
    let f : x - r + n ≡ x + n - r = omega arith in
    subst (λ (m : ℕ). IsWithin (begins sections db r) r m a c) f
    (within_more (begins sections db r) (begins sections db x) r (x - r) x n a b c h g
    (λ k lt passes. let e : x + k ≡ r + (x - r) + k = omega arith in
    subst (λ (y : ℕ). begins sections db r y ≡ true) e
    (first_else (x + k == x) (x + k == r) (is_section_bound sections (x + k) || is_bound_in db (place sections (x + k)))
    (λ same. let zeroth : x ≡ x + k = sym (eqb-true (x + k) x same) in subst (λ (y : ℕ). begins sections db r y ≡ true) zeroth at) passes)))

pub bound_begins : {A : Type 0} (sections : List ImageSectionHeader) (db : Database A) (r x : ℕ) → is_section_bound sections x ≡ true → begins sections db r x ≡ true
bound_begins sections db r x h = ap (λ (c : Bool). (x == r) || (c || is_bound_in db (place sections x))) h ∙ or-true (x == r)

pub first_begins : {A : Type 0} (sections : List ImageSectionHeader) (db : Database A) (r : ℕ) → begins sections db r r ≡ true
first_begins sections db r = ap (λ (c : Bool). c || (is_section_bound sections r || is_bound_in db (place sections r))) (eq-eqb r r refl)

pub range_start : {K A : Type 0} (found : K → Option A) (answer : ℕ → Option A) (r : ℕ) (t : List (K × ℕ)) → IsCounted found answer r (r - r) t t
range_start found answer r t = let e : 0 ≡ r - r = omega arith in subst (λ (m : ℕ). IsCounted found answer r m t t) e (counted_start found answer r t)
