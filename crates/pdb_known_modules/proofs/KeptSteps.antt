-- What is cached of modules stays theirs.
use Rattle.std.proofs.Common.{◌≡◌, ◌≢◌, true, false, ℕ, ◌<◌, List, length, None, Some, refl, sym, ap, ◌∙◌, inl, inr, arith}
use Rattle.std.specs.Prelude.{Option, replicate, slice_get, slice_set}
use Rattle.std.proofs.lemmas.Bool.{cases_lt}
use Rattle.std.proofs.lemmas.Bool.Decides.{eqb_tells}
use Rattle.std.proofs.lemmas.List.{length-replicate, length-set, get_or-replicate, get_or-set_same, get_or-set_other}
use Rattle.std.proofs.lemmas.Option.{slice_get_past, slice_get_within, slice_get-get_or}
use Rattle.pdb_known_modules.specs.KnownModules.{ModuleData}
use Rattle.pdb_known_modules.specs.CachedModules.{AreKept, known_in, known_of, is_empty}

abbrev Slots : Type 0
Slots = List (Option (Option ModuleData))

at_known : (own : ℕ → Option ModuleData) (slots : Slots) (n : ℕ) → AreKept own slots → n < length slots → (at : Option (Option (Option ModuleData))) → slice_get slots n ≡ at → at ≢ Some None → known_of at ≡ own n
at_known own slots n kept lt None e full = let there = slice_get-get_or slots n None lt in absurd cc
at_known own slots n kept lt (Some None) e full = absurd (full refl)
at_known own slots n kept lt (Some (Some known)) e full = kept.each n known e

-- what is in a slot that isn't an empty one is known
pub known_before : (own : ℕ → Option ModuleData) (slots : Slots) (n : ℕ) → AreKept own slots → slice_get slots n ≢ Some None → known_in slots n ≡ own n
known_before own slots n kept full = elim (cases_lt n (length slots)) [
  | inl lt ↦ at_known own slots n kept lt (slice_get slots n) refl full
  | inr le ↦ rw (slice_get_past slots n le) (sym (kept.past n le))
]

empty_at : (at : Option (Option (Option ModuleData))) → is_empty at ≡ true → at ≡ Some None
empty_at None h = absurd (cc)
empty_at (Some None) h = refl
empty_at (Some (Some known)) h = absurd (cc)

full_at : (at : Option (Option (Option ModuleData))) → is_empty at ≡ false → at ≢ Some None
full_at None h e = absurd (cc)
full_at (Some None) h e = absurd (cc)
full_at (Some (Some known)) h e = absurd (cc)

-- a slot that is empty
pub empty_is : (slots : Slots) (n : ℕ) → is_empty (slice_get slots n) ≡ true → slice_get slots n ≡ Some None
empty_is slots n h = empty_at (slice_get slots n) h

-- the same of what isn't empty
pub known_if_full : (own : ℕ → Option ModuleData) (slots : Slots) (n : ℕ) → AreKept own slots → is_empty (slice_get slots n) ≡ false → known_in slots n ≡ own n
known_if_full own slots n kept h = known_before own slots n kept (full_at (slice_get slots n) h)

set_same : (slots : Slots) (n : ℕ) (x : Option (Option ModuleData)) → n < length slots → slice_get (slice_set slots n x) n ≡ Some x
set_same slots n x lt =
    slice_get-get_or (slice_set slots n x) n None (omega (arith, length-set slots n x)) ∙ ap (λ y. Some y) (get_or-set_same slots n x None lt)

set_other : (slots : Slots) (n k : ℕ) (x : Option (Option ModuleData)) → k ≢ n → slice_get (slice_set slots n x) k ≡ slice_get slots k
set_other slots n k x ne = elim (cases_lt k (length slots)) [
  | inl lt ↦ slice_get-get_or (slice_set slots n x) k None (omega (arith, length-set slots n x)) ∙ ap (λ y. Some y) (get_or-set_other slots n k x None ne) ∙ sym (slice_get-get_or slots k None lt)
  | inr le ↦ slice_get_past (slice_set slots n x) k (omega (arith, length-set slots n x)) ∙ sym (slice_get_past slots k le)
]

-- what was read now is known
pub known_now : (slots : Slots) (n : ℕ) (known : Option ModuleData) → slice_get slots n ≡ Some None → known_in (slice_set slots n (Some known)) n ≡ known
known_now slots n known empty = rw (set_same slots n (Some known) (slice_get_within slots n None empty)) refl

each_now : (own : ℕ → Option ModuleData) (slots : Slots) (n : ℕ) (known : Option ModuleData) → AreKept own slots → n < length slots → known ≡ own n
    → (k : ℕ) (other : Option ModuleData) → slice_get (slice_set slots n (Some known)) k ≡ Some (Some other) → other ≡ own k
each_now own slots n known kept lt is k other e = elim (eqb_tells k n) [
  | inl same ↦
      let at : slice_get (slice_set slots n (Some known)) k ≡ slice_get (slice_set slots n (Some known)) n = ap (slice_get (slice_set slots n (Some known))) (same.1) in
      let now = set_same slots n (Some known) lt in
      let same_known : other ≡ known = cc in
      same_known ∙ is ∙ sym (ap own (same.1))
  | inr apart ↦ kept.each k other (sym (set_other slots n k (Some known) (apart.1)) ∙ e)
]

-- and what is cached is each module's own, still
pub kept_now : (own : ℕ → Option ModuleData) (slots : Slots) (n : ℕ) (known : Option ModuleData) → AreKept own slots → slice_get slots n ≡ Some None → known ≡ own n → AreKept own (slice_set slots n (Some known))
kept_now own slots n known kept empty is =
    let lt = slice_get_within slots n None empty in
    record { each = each_now own slots n known kept lt is; past = λ k le. kept.past k (omega (arith, length-set slots n (Some known))) }

each_but : (own : ℕ → Option ModuleData) (slots : Slots) (n : ℕ) → AreKept own slots → n < length slots
    → (k : ℕ) (other : Option ModuleData) → slice_get (slice_set slots n None) k ≡ Some (Some other) → other ≡ own k
each_but own slots n kept lt k other e = elim (eqb_tells k n) [
  | inl same ↦
      let at : slice_get (slice_set slots n None) k ≡ slice_get (slice_set slots n None) n = ap (slice_get (slice_set slots n None)) (same.1) in
      let now = set_same slots n None lt in
      absurd (cc)
  | inr apart ↦ kept.each k other (sym (set_other slots n k None (apart.1)) ∙ e)
]

-- what is cached is each module's own, still, where one is forgotten
pub one_forgotten : (own : ℕ → Option ModuleData) (slots : Slots) (n : ℕ) → AreKept own slots → n < length slots → AreKept own (slice_set slots n None)
one_forgotten own slots n kept lt = record { each = each_but own slots n kept lt; past = λ k le. kept.past k (omega (arith, length-set slots n None)) }

abbrev empty_place : Option (Option ModuleData)
empty_place = None

-- in none of so many empty slots anything is cached
empty_at_all : (count n : ℕ) (known : Option ModuleData) → slice_get (replicate count empty_place) n ≢ Some (Some known)
empty_at_all count n known e = elim (cases_lt n count) [
  | inl lt ↦
      let there = slice_get-get_or (replicate count empty_place) n None (omega (arith, lt, length-replicate count empty_place)) in
      let empty = get_or-replicate count n empty_place None lt in
      cc
  | inr le ↦
      let past = slice_get_past (replicate count empty_place) n (omega (arith, le, length-replicate count empty_place)) in
      cc
]

-- so many empty slots hold nothing that isn't the modules' own
pub none_kept : (own : ℕ → Option ModuleData) (slots : Slots) → AreKept own slots → AreKept own (replicate (length slots) None)
none_kept own slots kept = record {
  each = λ n known e. absurd (empty_at_all (length slots) n known e);
  past = λ n le. kept.past n (omega (arith, le, length-replicate (length slots) empty_place));
}
