-- Where ranges begin and end.
use Rattle.std.proofs.Common.{◌≡◌, ℕ, ◌+◌, ◌-◌, ◌^◌, ◌<◌, ◌||◌, Bool, true, List, [], ◌∷◌, ◌++◌}
use Rattle.std.proofs.Common.{eqb, get_or, inl, inr, length, max, min, refl, sym, ap, ◌∙◌, subst, arith}
use Rattle.std.proofs.Common.{zero, suc}
use Rattle.std.specs.Prelude.{IfOk, Result, Ok, Err}
use Rattle.std.proofs.lemmas.Bool.{cases_lt, eq-eqb}
use Rattle.std.proofs.lemmas.List.Elements.{All-get_or, All-push}
use Rattle.std.proofs.Math.Bool.{or-true}
use Rattle.pdb_addresses.specs.declared.sections.ImageSectionHeader.{ImageSectionHeader}
use Rattle.pdb_owners.specs.Counts.{is_section_bound}
use Rattle.pdb_symbol_files.specs.Code.{BeginAt, LieBetween, LiesBetween}
use Rattle.pdb_symbol_files.specs.declared.addresses.AddressRange.{AddressRange}

-- ---- a section's range

-- a section begins and ends at its bounds
own_bounds : (sections : List ImageSectionHeader) (i : ℕ) (d : ImageSectionHeader)
    → i < length sections
    → let s = get_or sections i d in
    (is_section_bound sections s.virtual_address ≡ true)
    × (is_section_bound sections (s.virtual_address + s.virtual_size) ≡ true)
own_bounds [] i d lt = absurd (omega arith)
own_bounds (s ∷ sections) zero d lt = (
  ap (λ (b : Bool). b || (eqb s.virtual_address (s.virtual_address + s.virtual_size)
      || is_section_bound sections s.virtual_address)) (eq-eqb s.virtual_address s.virtual_address refl),
  ap (λ (b : Bool). eqb (s.virtual_address + s.virtual_size) s.virtual_address
      || (b || is_section_bound sections (s.virtual_address + s.virtual_size)))
      (eq-eqb (s.virtual_address + s.virtual_size) (s.virtual_address + s.virtual_size) refl)
      ∙ or-true (eqb (s.virtual_address + s.virtual_size) s.virtual_address),
)
own_bounds (s ∷ sections) (suc i) d lt =
    let others = own_bounds sections i d (omega arith) in
    let r = get_or sections i d in
    let more : (x : ℕ) → is_section_bound sections x ≡ true
    → is_section_bound (s ∷ sections) x ≡ true
    = λ x h.
    ap (λ (b : Bool). eqb x s.virtual_address
    || (eqb x (s.virtual_address + s.virtual_size) || b)) h
    ∙ ap (λ (b : Bool). eqb x s.virtual_address || b)
    (or-true (eqb x (s.virtual_address + s.virtual_size)))
    ∙ or-true (eqb x s.virtual_address) in
    (more r.virtual_address others.0, more (r.virtual_address + r.virtual_size) others.1)

-- its range lies between them
pub section_more : (sections : List ImageSectionHeader) (i : ℕ) (d : ImageSectionHeader)
    (ranges : List AddressRange) (r : AddressRange) → i < length sections
    → r.start ≡ (get_or sections i d).virtual_address
    → r.end ≡ min ((get_or sections i d).virtual_address + (get_or sections i d).virtual_size)
    (2 ^ 32 - 1)
    → LieBetween (is_section_bound sections) ranges
    → LieBetween (is_section_bound sections) (ranges ++ r ∷ [])
section_more sections i d ranges r lt start end lie =
    let s = get_or sections i d in
    let own = own_bounds sections i d lt in
    All-push (LiesBetween (is_section_bound sections)) ranges r lie
    (record {
      starts = subst (λ (x : ℕ). is_section_bound sections x ≡ true) (sym start) own.0;
      within = omega (arith, end);
      ends = λ low.
          let e : s.virtual_address + s.virtual_size ≡ r.end = omega (arith, end, low) in
          subst (λ (x : ℕ). is_section_bound sections x ≡ true) e own.1;
    })

-- ---- ranges that have none in common

-- the ranges so far begin at such addresses, and the last one ends at one
pub record BeginSoFar (ranges made : List AddressRange) (done : ℕ) : Type 0 where
  pub starts : (test : ℕ → Bool) → LieBetween test ranges → BeginAt test made
  pub ends : (test : ℕ → Bool) → LieBetween test ranges → 0 < done → done < 2 ^ 32 - 1
      → test done ≡ true

-- one range more
pub begin_more : (ranges made : List AddressRange) (i done start : ℕ) (d : AddressRange)
    → i < length ranges → start ≡ max (get_or ranges i d).start done
    → start < (get_or ranges i d).end
    → BeginSoFar ranges made done
    → BeginSoFar ranges (made ++ record { start = start; end = (get_or ranges i d).end } ∷ [])
    (get_or ranges i d).end
begin_more ranges made i done start d lt is some so_far =
    let r = get_or ranges i d in
    let made_range : AddressRange = record { start = start; end = r.end } in
    record {
      starts = λ test lie.
          let own = All-get_or (LiesBetween test) ranges i d lt lie in
          let here : test start ≡ true = elim (cases_lt r.start done) [
            | inl past ↦
                subst (λ (x : ℕ). test x ≡ true) (let e : done ≡ start = omega (arith, is, past) in e)
                (so_far.ends test lie (omega (arith, past)) (omega (arith, is, past, some, own.within)))
            | inr before ↦
                subst (λ (x : ℕ). test x ≡ true) (let e : r.start ≡ start = omega (arith, is, before) in e)
                own.starts
          ] in
          All-push (λ (q : AddressRange). test q.start ≡ true) made made_range
          (so_far.starts test lie) here;
      ends = λ test lie some' low. (All-get_or (LiesBetween test) ranges i d lt lie).ends low;
    }

-- ranges that were made of some lie so, if these do
pub if_begin : {A E : Type 0} (items : A → List AddressRange) (test : ℕ → Bool)
    (seen ranges : List AddressRange) (r : Result A E) → seen ≡ ranges → LieBetween test ranges
    → IfOk r (λ made. (t : ℕ → Bool) → LieBetween t seen → BeginAt t (items made))
    → IfOk r (λ made. BeginAt test (items made))
if_begin items test seen ranges (Ok made) same lie h =
    h test (subst (λ (xs : List AddressRange). LieBetween test xs) (sym same) lie)
if_begin items test seen ranges (Err e) same lie h = tt
