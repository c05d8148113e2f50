-- Over how many addresses places follow one another.
use Rattle.std.proofs.Common.{◌≡◌, ◌≢◌, ℕ, ◌+◌, ◌-◌, ◌^◌, ◌<◌, ◌≤◌, max, min, inl, inr, List, [], ◌∷◌}
use Rattle.std.proofs.Common.{Bool, true, cond, eqb, ◌||◌, refl, sym, ap, ◌∙◌, subst, arith}
use Rattle.std.specs.Prelude.{Option, None, Some, IfSome, is_none, option_map}
use Rattle.std.specs.Prelude.{option_and_then, nat_le}
use Rattle.std.specs.List.{list_any}
use Rattle.std.proofs.Math.Bool.{or-true}
use Rattle.std.proofs.lemmas.Bool.{lt-ltb, le-ltb, eq-eqb, cases_lt, cases_Bool}
use Rattle.pdb_addresses.specs.Addresses.{Map, inner, inner_place}
use Rattle.pdb_addresses.specs.Cursor.{sent_along}
use Rattle.pdb_addresses.specs.Omap.{translated}
use Rattle.pdb_addresses.specs.PlaceRun.{begins_record, breaks, is_bound_at, is_one_missing}
use Rattle.pdb_addresses.specs.Places.{Place, internal_place}
use Rattle.pdb_addresses.specs.SectionRun.{bounds, is_section_bound, place_on, up_to_next}
use Rattle.pdb_addresses.specs.Sections.{place, place_from, place_in}
use Rattle.pdb_addresses.specs.declared.internal_section_offset.PdbInternalSectionOffset.{
  PdbInternalSectionOffset,
}
use Rattle.pdb_addresses.specs.declared.omap.OMAPRecord.{OMAPRecord}
use Rattle.pdb_addresses.specs.declared.sections.ImageSectionHeader.{ImageSectionHeader}
use Rattle.pdb_addresses.proofs.RunSteps.{most}

-- addresses go on from one as a record sends them
abbrev pub GoOn : Map → ℕ → Option ℕ → ℕ → Type 0
GoOn m a first count = (k : ℕ) → k < count → inner m (a + k) ≡ sent_along first k

-- they do so over a map's own OMAP, from what the first becomes
pub moved : (m : Map) (omap : Option (List OMAPRecord)) (a count : ℕ) (first : Option ℕ) (x : ℕ)
    → omap ≡ m.to_internal → first ≡ Some x
    → ((k : ℕ) → k < count → translated omap (a + k) ≡ sent_along first k)
    → GoOn m a (Some x) count
moved m omap a count first x same is along k lt =
    ap (λ (o : Option (List OMAPRecord)). translated o (a + k)) (sym same)
    ∙ along k lt
    ∙ ap (λ (o : Option ℕ). sent_along o k) is

-- ---- addresses that become something

pub some_along : (m : Map) (a x count k : ℕ) → GoOn m a (Some x) count → k < count
    → x + k < 2 ^ 32 → inner m (a + k) ≡ Some (x + k)
some_along m a x count k on lt low =
    on k lt
    ∙ ap (λ (b : Bool). let o : Option ℕ = cond b (Some (x + k)) None in o)
    (lt-ltb (x + k) (2 ^ 32) low)

pub some_here : (m : Map) (a x count : ℕ) → GoOn m a (Some x) count → 1 ≤ count → x < 2 ^ 32
    → inner m a ≡ Some x
some_here m a x count on some low =
    let at : a ≡ a + 0 = omega arith in
    let none : x + 0 ≡ x = omega arith in
    ap (inner m) at ∙ some_along m a x count 0 on (omega (arith, some)) (omega (arith, low))
    ∙ ap (λ (n : ℕ). let o : Option ℕ = Some n in o) none

pub place_here : (m : Map) (a x count : ℕ) → GoOn m a (Some x) count → 1 ≤ count → x < 2 ^ 32
    → place m.internal x ≡ inner_place m a
place_here m a x count on some low =
    sym (ap (option_and_then (place m.internal)) (some_here m a x count on some low))

-- a run of a section is no longer than its limit
pub run_length : (bs : List ℕ) (x limit n : ℕ) → n ≡ up_to_next bs x limit → n ≤ limit
run_length bs x limit n is = let le = most bs x limit in omega (arith, is, le)

-- how far the addresses of a run reach
pub record Reaches (count x n : ℕ) : Type 0 where
  pub in_record : n ≤ count
  pub in_room : n ≤ max (2 ^ 32 - 1 - x) 1
  pub in_32_bits : x < 2 ^ 32

pub reaches : (bs : List ℕ) (x count room limit n : ℕ) → x < 2 ^ 32
    → room ≡ max (2 ^ 32 - 1 - x) 1 → limit ≡ min count room → n ≡ up_to_next bs x limit
    → Reaches count x n
reaches bs x count room limit n low wide is counted =
    let le = run_length bs x limit n counted in
    record {
      in_record = omega (arith, is, le);
      in_room = omega (arith, is, le, wide);
      in_32_bits = low;
    }

-- places follow one another where addresses and their places do
pub places_along : (m : Map) (a x count n k : ℕ) → GoOn m a (Some x) count → Reaches count x n
    → ((j : ℕ) → j < n → place m.internal (x + j) ≡ place_on j (place m.internal x))
    → k < n → inner_place m (a + k) ≡ place_on k (inner_place m a)
places_along m a x count n k on far along lt =
    let p = far.in_record in
    let q = far.in_room in
    let r = far.in_32_bits in
    let here = some_along m a x count k on (omega (arith, p, lt)) (omega (arith, q, r, lt)) in
    ap (option_and_then (place m.internal)) here
    ∙ along k lt
    ∙ ap (place_on k) (place_here m a x count on (omega (arith, p, lt)) r)

-- no address of several becomes 0xffffffff
pub last_alone : (m : Map) (a x count n k : ℕ) → GoOn m a (Some x) count → Reaches count x n
    → 1 < n → k < n → inner m (a + k) ≢ Some (2 ^ 32 - 1)
last_alone m a x count n k on far several lt last =
    let p = far.in_record in
    let q = far.in_room in
    let here = some_along m a x count k on (omega (arith, p, lt)) (omega (arith, q, several, lt)) in
    let same : x + k ≡ 2 ^ 32 - 1 = cc in
    absurd (omega (arith, q, several, lt, same))

-- ---- offsets

in_low : (number offset x : ℕ) → offset ≤ x → IfSome (place_in number offset) (λ p. p.offset ≤ x)
in_low number offset x le = elim (cases_Bool (nat_le number 65535)) [
  | inl e ↦ rw e le
  | inr e ↦ rw e tt
]

low_from : (sections : List ImageSectionHeader) (number x : ℕ)
    → IfSome (place_from number sections x) (λ p. p.offset ≤ x)
low_from [] number x = tt
low_from (s ∷ sections) number x = elim (cases_lt x s.virtual_address) [
  | inl before ↦ rw (lt-ltb x s.virtual_address before) tt
  | inr past ↦ elim (cases_lt (x - s.virtual_address) s.virtual_size) [
    | inl within ↦
        rw (
          le-ltb x s.virtual_address past,
          lt-ltb (x - s.virtual_address) s.virtual_size within,
        )
        (in_low number (x - s.virtual_address) x (omega arith))
    | inr beyond ↦
        rw (
          le-ltb x s.virtual_address past,
          le-ltb (x - s.virtual_address) s.virtual_size beyond,
        )
        (low_from sections (number + 1) x)
  ]
]

fits_by : (o : Option Place) (x n : ℕ) → IfSome o (λ p. p.offset ≤ x) → x + n ≤ 2 ^ 32
    → IfSome (option_map internal_place o) (λ p. p.offset + n ≤ 2 ^ 32)
fits_by None x n low le = tt
fits_by (Some p) x n low le = omega (arith, low, le)

-- the offsets of a run fit 32 bits
pub offsets_fit : (m : Map) (x count n : ℕ) (found : Option PdbInternalSectionOffset)
    → Reaches count x n → found ≡ option_map internal_place (place m.internal x)
    → IfSome found (λ p. p.offset + n ≤ 2 ^ 32)
offsets_fit m x count n found far is =
    let q = far.in_room in
    let r = far.in_32_bits in
    subst (λ (o : Option PdbInternalSectionOffset). IfSome o (λ p. p.offset + n ≤ 2 ^ 32)) (sym is)
    (fits_by (place m.internal x) x n (low_from m.internal 1 x) (omega (arith, q, r)))

-- ---- where places no longer follow one another

-- at an address that goes by another record
pub record_breaks : (m : Map) (a : ℕ) → begins_record m.to_internal a ≡ true → breaks m a ≡ true
record_breaks m a other =
    ap (λ (b : Bool). b || (is_one_missing (inner m (a - 1)) (inner m a)
    || is_bound_at m.internal (inner m a))) other

-- at a bound of a section, or at 0xffffffff
bound_breaks : (m : Map) (a x : ℕ) → inner m a ≡ Some x → is_bound_at m.internal (Some x) ≡ true
    → breaks m a ≡ true
bound_breaks m a x here bound =
    ap (λ (b : Bool). begins_record m.to_internal a
    || (is_one_missing (inner m (a - 1)) (inner m a) || b))
    (ap (is_bound_at m.internal) here ∙ bound)
    ∙ ap (λ (b : Bool). begins_record m.to_internal a || b)
    (or-true (is_one_missing (inner m (a - 1)) (inner m a)))
    ∙ or-true (begins_record m.to_internal a)

-- at an address that becomes nothing after one that becomes something
hole_breaks : (m : Map) (a x : ℕ) → inner m (a - 1) ≡ Some x → inner m a ≡ None
    → breaks m a ≡ true
hole_breaks m a x before none =
    let missing : is_one_missing (inner m (a - 1)) (inner m a) ≡ true =
    ap (λ (o : Option ℕ). is_one_missing o (inner m a)) before ∙ ap is_none none in
    ap (λ (b : Bool). begins_record m.to_internal a || (b || is_bound_at m.internal (inner m a)))
    missing
    ∙ or-true (begins_record m.to_internal a)

-- where a run of a section ends before its limit, a section starts or ends
next_is_bound : (bs : List ℕ) (x limit n : ℕ) → n ≡ up_to_next bs x limit → n < limit
    → list_any (λ b. eqb (x + n) b) bs ≡ true
next_is_bound [] x limit n e lt = absurd (omega arith)
next_is_bound (b ∷ bs) x limit n e lt = elim (cases_lt x b) [
  | inl low ↦
      let g : n ≡ min (up_to_next bs x limit) (b - x) = rw (lt-ltb x b low) at e in
      elim (cases_lt (up_to_next bs x limit) (b - x)) [
        | inl near ↦
            ap (λ (c : Bool). eqb (x + n) b || c) (next_is_bound bs x limit n (omega arith) lt)
            ∙ or-true (eqb (x + n) b)
        | inr far ↦ let here : eqb (x + n) b ≡ true = eq-eqb (x + n) b (omega arith) in rw here refl
      ]
  | inr high ↦
      let g : n ≡ up_to_next bs x limit = rw (le-ltb x b high) at e in
      ap (λ (c : Bool). eqb (x + n) b || c) (next_is_bound bs x limit n g lt)
      ∙ or-true (eqb (x + n) b)
]

-- the run of a section ends before its limit
section_breaks : (m : Map) (a x count limit n : ℕ) → GoOn m a (Some x) count → Reaches count x n
    → n < count → x + n < 2 ^ 32 → n ≡ up_to_next (bounds m.internal) x limit → n < limit
    → breaks m (a + n) ≡ true
section_breaks m a x count limit n on far less low is lt =
    bound_breaks m (a + n) (x + n) (some_along m a x count n on less low)
    (ap (λ (b : Bool). eqb (x + n) (2 ^ 32 - 1) || b)
    (next_is_bound (bounds m.internal) x limit n is lt)
    ∙ or-true (eqb (x + n) (2 ^ 32 - 1)))

-- the run has reached 0xffffffff
last_breaks : (m : Map) (a x count n : ℕ) → GoOn m a (Some x) count → n < count
    → x + n ≡ 2 ^ 32 - 1 → breaks m (a + n) ≡ true
last_breaks m a x count n on less is =
    bound_breaks m (a + n) (x + n) (some_along m a x count n on less (omega (arith, is)))
    (ap (λ (b : Bool). b || is_section_bound m.internal (x + n))
    (eq-eqb (x + n) (2 ^ 32 - 1) is))

-- the run is 0xffffffff alone
alone_breaks : (m : Map) (a x count : ℕ) → GoOn m a (Some x) count → 1 < count
    → x ≡ 2 ^ 32 - 1 → breaks m (a + 1) ≡ true
alone_breaks m a x count on less is =
    let at : a + 1 - 1 ≡ a = omega arith in
    hole_breaks m (a + 1) x
    (ap (inner m) at ∙ some_here m a x count on (omega (arith, less)) (omega (arith, is)))
    (on 1 less
    ∙ ap (λ (b : Bool). let o : Option ℕ = cond b (Some (x + 1)) None in o)
    (le-ltb (x + 1) (2 ^ 32) (omega (arith, is))))

-- a run of places ends there
pub run_breaks : (m : Map) (a x count room limit n end : ℕ) → GoOn m a (Some x) count
    → (a + count < end → begins_record m.to_internal (a + count) ≡ true) → x < 2 ^ 32
    → room ≡ max (2 ^ 32 - 1 - x) 1 → limit ≡ min count room
    → n ≡ up_to_next (bounds m.internal) x limit → 1 ≤ n → a + n < end → breaks m (a + n) ≡ true
run_breaks m a x count room limit n end on ends low wide is counted some lt =
    let far = reaches (bounds m.internal) x count room limit n low wide is counted in
    let p = far.in_record in
    let q = far.in_room in
    let le = run_length (bounds m.internal) x limit n counted in
    elim (cases_lt n count) [
      | inr whole ↦
          let same : count ≡ n = omega (arith, p, whole) in
          subst (λ (y : ℕ). breaks m (a + y) ≡ true) same
          (record_breaks m (a + count) (ends (omega (arith, same, lt))))
      | inl less ↦ elim (cases_lt n limit) [
        | inl short ↦
            section_breaks m a x count limit n on far less
            (omega (arith, short, is, wide, low, some)) counted short
        | inr all ↦ elim (cases_lt x (2 ^ 32 - 1)) [
          | inl below ↦
              last_breaks m a x count n on less (omega (arith, all, le, is, wide, below, less))
          | inr last ↦
              let one : 1 ≡ n = omega (arith, all, le, is, wide, last, low, some) in
              subst (λ (y : ℕ). breaks m (a + y) ≡ true) one
              (alone_breaks m a x count on (omega (arith, one, less)) (omega (arith, last, low)))
        ]
      ]
    ]
