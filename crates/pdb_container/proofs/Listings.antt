-- What stands one after the other, as an iterator goes over it and as a loop gathers it.
use Rattle.std.proofs.Common.{◌≡◌, ◌≢◌, ℕ, zero, suc, ◌≤◌, ◌<◌, inl, inr, List, [], ◌∷◌, ◌++◌, length, drop, None, Some, Result, Ok, Err, refl, sym, ap, ◌∙◌, append_assoc, arith}
use Rattle.std.proofs.lemmas.Bool.{cases_lt, lt-ltb, le-ltb}
use Rattle.std.proofs.lemmas.List.{append-nil, drop_all}
use Rattle.pdb_container.specs.Fault.{Fault}
use Rattle.pdb_container.specs.Fields.{Reader}
use Rattle.pdb_container.specs.Listing.{Listing, ending, before, onward, listing_within, listing, whole}

module _ {A : Type 0} (one : Reader A) where
  same_onward : (n m count : ℕ) (read : Result (A × List ℕ) Fault) → ((left : List ℕ) → length left < count → listing_within one n left ≡ listing_within one m left)
      → onward (listing_within one n) count read ≡ onward (listing_within one m) count read
  same_onward n m count (Err e) same = refl
  same_onward n m count (Ok read) same = elim (cases_lt (length read.1) count) [
    | inl lt ↦ rw (lt-ltb (length read.1) count lt) (ap (before read.0) (same read.1 lt))
    | inr le ↦ rw (le-ltb (length read.1) count le) refl
  ]

  -- steps past the number of bytes change nothing
  same_steps : (n m : ℕ) (bytes : List ℕ) → length bytes ≤ n → length bytes ≤ m → listing_within one n bytes ≡ listing_within one m bytes
  unfolding listing_within
  same_steps n m [] enough enough' = refl
  same_steps zero m (b ∷ bytes) enough enough' = absurd (omega arith)
  same_steps (suc n) zero (b ∷ bytes) enough enough' = absurd (omega arith)
  same_steps (suc n) (suc m) (b ∷ bytes) enough enough' =
      same_onward n m (length (b ∷ bytes)) (one (b ∷ bytes)) (λ left lt. same_steps n m left (omega arith) (omega arith))

  pub listing_next : (bytes left : List ℕ) (x : A) → one bytes ≡ Ok (x, left) → length left < length bytes → listing one bytes ≡ before x (listing one left)
  unfolding listing_within
  listing_next [] left x read lt = absurd (omega arith)
  listing_next (b ∷ bytes) left x read lt = rw (read, lt-ltb (length left) (length (b ∷ bytes)) lt) (ap (before x) (same_steps (length bytes) (length left) left (omega arith) (omega arith)))

  -- where a value is still to come, the end isn't reached
  pub listing_goes_on : (bytes left : List ℕ) (x : A) → one bytes ≡ Ok (x, left) → length left < length bytes → listing one bytes ≡ ending None → ⊥
  listing_goes_on bytes left x read lt ended =
      let e : length (before x (listing one left)).items ≡ 0 = ap (λ (l : Listing A). length l.items) (sym (listing_next bytes left x read lt) ∙ ended) in
      absurd (omega arith)

  pub listing_fault : (bytes : List ℕ) (e : Fault) → length bytes ≢ 0 → one bytes ≡ Err e → listing one bytes ≡ ending (Some e)
  unfolding listing_within
  listing_fault [] e some read = absurd (some refl)
  listing_fault (b ∷ bytes) e some read = rw read refl

  pub listing_end : (bytes : List ℕ) → length bytes ≡ 0 → listing one bytes ≡ ending None
  unfolding listing_within
  listing_end [] none = refl
  listing_end (b ∷ bytes) none = absurd (omega arith)

  pub listing_past : (bytes : List ℕ) (place : ℕ) → length bytes ≤ place → listing one (drop place bytes) ≡ ending None
  unfolding listing_within
  listing_past bytes place past = rw (drop_all place bytes past) refl

-- ---- what was gathered, before what is still to come

-- values before a listing
abbrev pub onto : {A : Type 0} → List A → Listing A → Listing A
onto front l = record { items = front ++ l.items; fault = l.fault }

-- no values before a listing
pub gather_start : {A : Type 0} (l : Listing A) → onto [] l ≡ l
gather_start l = refl

-- the first value of a listing moved to those before it
pub gather_more : {A : Type 0} (front : List A) (l others total : Listing A) (x : A) → l ≡ before x others → onto front l ≡ total → onto (front ++ x ∷ []) others ≡ total
gather_more {A} front l others total x step so_far =
    let now : onto front l ≡ onto (front ++ x ∷ []) others = ap (onto front) step ∙ ap (λ (xs : List A). record { items = xs; fault = others.fault }) (sym (append_assoc front (x ∷ []) others.items)) in
    sym now ∙ so_far

-- a listing that ended well: those before it are the whole
pub gather_end : {A : Type 0} (front : List A) (l total : Listing A) → l ≡ ending None → onto front l ≡ total → whole total ≡ Ok front
gather_end {A} front l total end so_far =
    let now : total ≡ onto front (ending None) = sym so_far ∙ ap (onto front) end in
    ap whole now ∙ ap (λ (xs : List A). Ok xs) (append-nil front)

-- a listing that ended with a fault: the whole of it has that fault
pub gather_fault : {A : Type 0} (front : List A) (l total : Listing A) (e : Fault) → l ≡ ending (Some e) → onto front l ≡ total → whole total ≡ Err e
gather_fault {A} front l total e end so_far = ap whole (sym so_far ∙ ap (onto front) end)
