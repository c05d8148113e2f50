-- Slots in which something may be cached.
use Rattle.std.proofs.Common.{◌≡◌, ◌≢◌, ℕ, ◌<◌, List, [], replicate, length, None, Some, sym, ap}
use Rattle.std.proofs.Common.{◌∙◌, inl, inr, arith}
use Rattle.std.specs.Prelude.{Option, slice_get, slice_set}
use Rattle.std.proofs.lemmas.Bool.{cases_lt}
use Rattle.std.proofs.lemmas.Bool.Decides.{eqb_tells}
use Rattle.std.proofs.lemmas.List.{length-set, length-replicate, get_or-set_same}
use Rattle.std.proofs.lemmas.List.{get_or-set_other, get_or-replicate}
use Rattle.std.proofs.lemmas.Option.{slice_get_past, slice_get-get_or}

-- what is cached in a slot has a property that its number may decide
abbrev pub Have : {X : Type 0} → (ℕ → X → Type 0) → List (Option X) → Type 0
Have P places = (k : ℕ) (x : _) → slice_get places k ≡ Some (Some x) → P k x

set_same : {X : Type 0} (places : List (Option X)) (n : ℕ) (x : Option X) → n < length places
    → slice_get (slice_set places n x) n ≡ Some x
set_same places n x lt =
    slice_get-get_or (slice_set places n x) n None (omega (arith, length-set places n x))
    ∙ ap (λ y. Some y) (get_or-set_same places n x None lt)

set_other : {X : Type 0} (places : List (Option X)) (n k : ℕ) (x : Option X) → k ≢ n
    → slice_get (slice_set places n x) k ≡ slice_get places k
set_other places n k x ne = elim (cases_lt k (length places)) [
  | inl lt ↦
      slice_get-get_or (slice_set places n x) k None (omega (arith, length-set places n x))
      ∙ ap (λ y. Some y) (get_or-set_other places n k x None ne)
      ∙ sym (slice_get-get_or places k None lt)
  | inr le ↦
      slice_get_past (slice_set places n x) k (omega (arith, length-set places n x))
      ∙ sym (slice_get_past places k le)
]

-- with one more, whose property is known
pub have_now : {X : Type 0} (P : ℕ → X → Type 0) (places : List (Option X)) (n : ℕ) (x : X)
    → Have P places → n < length places → P n x → Have P (slice_set places n (Some x))
have_now P places n x have lt is k y e = elim (eqb_tells k n) [
  | inl same ↦
      let set = slice_set places n (Some x) in
      let at : slice_get set k ≡ slice_get set n = ap (slice_get set) (same.1) in
      let now = set_same places n (Some x) lt in
      let same_data : y ≡ x = cc in
      rw (same_data, same.1) is
  | inr apart ↦ have k y (sym (set_other places n k (Some x) (apart.1)) ∙ e)
]

none_is_apart : {X : Type 0} (k : ℕ) (places : List (Option X)) (x : X)
    → slice_get places k ≡ Some None → slice_get places k ≡ Some (Some x) → ⊥
none_is_apart k places x none e = cc

nothing_at : {X : Type 0} (count k : ℕ) (x : X)
    → slice_get (replicate count None) k ≡ Some (Some x) → ⊥
nothing_at {X} count k x e =
    let many = length-replicate {A = Option X} count None in
    let places : List (Option X) = replicate count None in
    elim (cases_lt k count) [
      | inl lt ↦ none_is_apart k places x
          (slice_get-get_or places k None (omega (arith, many))
          ∙ ap (λ y. Some y) (get_or-replicate {A = Option X} count k None None lt)) e
      | inr le ↦ (let past = slice_get_past places k (omega (arith, many)) in cc)
    ]

-- empty slots have nothing
pub nothing_in : {X : Type 0} (P : ℕ → X → Type 0) (count : ℕ) → Have P (replicate count None)
nothing_in P count k x e = absurd (nothing_at count k x e)

-- and so have no slots
pub nothing_in_none : {X : Type 0} (P : ℕ → X → Type 0) → Have P []
nothing_in_none P k x e = cc
