-- The modules that hold places of a range of RVAs.
use Rattle.std.proofs.Common.{◌≡◌, ℕ, zero, suc, ◌+◌, ◌-◌, ◌^◌, ◌<◌, ◌≤◌, ◌⊎◌, inl, inr, Bool, true, false, List, [], ◌∷◌, ◌++◌, map, Option, None, Some, length, drop, get_or, refl, sym, ap, subst, ◌∙◌, arith, append_assoc}
use Rattle.std.specs.Prelude.{option_map, option_and_then}
use Rattle.std.specs.declared.ops.Range.{Range}
use Rattle.std.specs.List.{filter, find, range_with_len}
use Rattle.std.proofs.lemmas.Bool.{cases_Bool, cases_eq, cases_lt, and_parts, and_from, or_right, eq-eqb, eqb-true, leb-true, ltb-true, le-ltb, lt-ltb}
use Rattle.std.proofs.lemmas.List.{append-nil, drop_more, drop_all}
use Rattle.std.proofs.lemmas.Option.{none-some, same_Some}
use Rattle.pdb_addresses.specs.declared.internal_section_offset.PdbInternalSectionOffset.{PdbInternalSectionOffset}
use Rattle.pdb_addresses.specs.declared.omap.OMAPRecord.{OMAPRecord}
use Rattle.pdb_addresses.specs.declared.sections.ImageSectionHeader.{ImageSectionHeader}
use Rattle.pdb_addresses.specs.Addresses.{Map}
use Rattle.pdb_addresses.specs.Omap.{translated}
use Rattle.pdb_addresses.specs.PartedRuns.{laid_out, with_first, each_for_itself}
use Rattle.pdb_addresses.specs.Places.{Place, internal_place}
use Rattle.pdb_addresses.specs.Ranges.{TranslatedRun, kept, runs}
use Rattle.pdb_addresses.specs.Sections.{address, address_behind, place, section_at}
use Rattle.pdb_addresses.proofs.LaidLemmas.{laid_end_to_end}
use Rattle.pdb_addresses.proofs.PlaceBack.{there_and_back}
use Rattle.pdb_answers.specs.Choice.{Parts, held_at}
use Rattle.pdb_contributions.specs.declared.contribution.ModuleSectionContribution.{ModuleSectionContribution}
use Rattle.pdb_contributions.specs.MergedContributions.{holder, holds}
use Rattle.pdb_addr2line.specs.ModulesAt.{cover, meets, may_hold, modules_holding, modules_between, HasHolders}
use Rattle.pdb_addr2line.specs.Starts.{is_among}

-- ---- going over contributions

module _ (m : Map) (range : Range ℕ) where
  -- one more contribution, which may hold an address
  pub held : (modules grown total : List ℕ) (contributions : List ModuleSectionContribution) (index : ℕ) (d : ModuleSectionContribution) → index < length contributions
      → may_hold m range (get_or contributions index d) ≡ true → grown ≡ modules ++ (get_or contributions index d).module_index ∷ []
      → modules ++ modules_holding m range (drop index contributions) ≡ total → grown ++ modules_holding m range (drop (index + 1) contributions) ≡ total
  held modules grown total contributions index d lt holding grows so_far =
      let others = drop (index + 1) contributions in
      ap (λ (g : List ℕ). g ++ modules_holding m range others) grows
      ∙ append_assoc modules ((get_or contributions index d).module_index ∷ []) (modules_holding m range others)
      ∙ sym (ap (λ (cs : List ModuleSectionContribution). modules ++ modules_holding m range cs) (drop_more contributions index d lt) ∙ rw holding refl) ∙ so_far

  -- one that holds none
  pub passed : (modules total : List ℕ) (contributions : List ModuleSectionContribution) (index : ℕ) (d : ModuleSectionContribution) → index < length contributions
      → may_hold m range (get_or contributions index d) ≡ false
      → modules ++ modules_holding m range (drop index contributions) ≡ total → modules ++ modules_holding m range (drop (index + 1) contributions) ≡ total
  passed modules total contributions index d lt none so_far =
      sym (ap (λ (cs : List ModuleSectionContribution). modules ++ modules_holding m range cs) (drop_more contributions index d lt) ∙ rw none refl) ∙ so_far

  -- none is left
  pub none_left : (modules total : List ℕ) (contributions : List ModuleSectionContribution) (index : ℕ) → length contributions ≤ index
      → modules ++ modules_holding m range (drop index contributions) ≡ total → modules ≡ total
  none_left modules total contributions index past so_far =
      sym (append-nil modules) ∙ ap (λ (cs : List ModuleSectionContribution). modules ++ modules_holding m range cs) (sym (drop_all index contributions past)) ∙ so_far

-- ---- addresses among runs

abbrev Has : List ℕ → ℕ → Type 0
Has [] x = ⊥
Has (y ∷ ys) x = (y ≡ x) ⊎ Has ys x

has_first : (o : Option ℕ) (others : List ℕ) (x : ℕ) → Has others x → Has (with_first o others) x
has_first None others x h = h
has_first (Some n) others x h = inr h

each_has : (becomes : ℕ → Option ℕ) (from count a x : ℕ) → from ≤ a → a < from + count → becomes a ≡ Some x → Has (each_for_itself becomes from count) x
unfolding each_for_itself
each_has becomes from zero a x low high is = absurd (omega arith)
each_has becomes from (suc count) a x low high is = elim (cases_eq from a) [
  | inl here ↦ let there : becomes from ≡ Some x = ap becomes here ∙ is in rw there (inl refl)
  | inr other ↦ has_first (becomes from) (each_for_itself becomes (from + 1) count) x (each_has becomes (from + 1) count a x (omega arith) (omega arith) is)
]

in_range : (a n x : ℕ) → Has (range_with_len a n) x → (a ≤ x) × (x < a + n)
in_range a zero x h = absurd h
in_range a (suc n) x (inl here) = (omega arith, omega arith)
in_range a (suc n) x (inr h) = let at = in_range (a + 1) n x h in (let low = at.0 in omega arith, let high = at.1 in omega arith)

in_cover : (rs : List TranslatedRun) (x : ℕ) → x < 2 ^ 32 - 1 → Has (laid_out rs) x → ((cover rs).start ≤ x) × (x < (cover rs).end)
in_cover [] x low h = absurd h
in_cover (r ∷ []) x low h =
    let at = in_range r.start (r.end - r.start) x (subst (λ xs. Has xs x) (append-nil (range_with_len r.start (r.end - r.start))) h) in
    (at.0, let first = at.0 in let last = at.1 in omega arith)
in_cover (r ∷ next ∷ rs) x low h = (omega arith, low)

-- what an address of a range becomes lies in the range that covers the runs
covered : (omap : Option (List OMAPRecord)) (start end a x : ℕ) → start ≤ a → a < end → translated omap a ≡ Some x → x < 2 ^ 32 - 1
    → ((cover (runs omap start end)).start ≤ x) × (x < (cover (runs omap start end)).end)
covered omap start end a x low high is below_end =
    let becomes : kept omap a ≡ Some x = rw is (rw (lt-ltb x (2 ^ 32 - 1) below_end) refl) in
    in_cover (runs omap start end) x below_end
    (subst (λ xs. Has xs x) (sym (laid_end_to_end omap start end)) (each_has (kept omap) start (end - start) a x low (omega arith) becomes))

-- ---- contributions that hold an address

-- an earlier offset has an earlier address
before : (s : Option ImageSectionHeader) (offset first x : ℕ) → address_behind s offset ≡ Some x → first ≤ offset → (start : ℕ) × ((address_behind s first ≡ Some start) × (start + (offset - first) ≡ x))
before None offset first x is le = absurd (none-some x is)
before (Some s) offset first x is le = elim (cases_lt (s.virtual_address + offset) (2 ^ 32)) [
  | inr past ↦ let none : address_behind (Some s) offset ≡ None = rw (le-ltb (s.virtual_address + offset) (2 ^ 32) past) refl in absurd cc
  | inl fits ↦
      let some : address_behind (Some s) offset ≡ Some (s.virtual_address + offset) = rw (lt-ltb (s.virtual_address + offset) (2 ^ 32) fits) refl in
      let same : s.virtual_address + offset ≡ x = same_Some _ _ (sym some ∙ is) in
      (s.virtual_address + first, (rw (lt-ltb (s.virtual_address + first) (2 ^ 32) (omega arith)) refl, omega arith))
]

meets_there : (range : Range ℕ) (found : Option ℕ) (start x len : ℕ) → found ≡ Some start → start ≤ x → x < start + len → range.start ≤ x → x < range.end → meets range found len ≡ true
meets_there range found start x len is from to low high = rw is (and_from _ _ (lt-ltb start range.end (omega arith)) (lt-ltb range.start (start + len) (omega arith)))

-- a contribution that holds the place of an address in a range may hold one in it
may_there : (m : Map) (range : Range ℕ) (p : PdbInternalSectionOffset) (c : ModuleSectionContribution) (x : ℕ) → address m.internal p.section p.offset ≡ Some x
    → range.start ≤ x → x < range.end → holds p c ≡ true → may_hold m range c ≡ true
may_there m range p c x is low high h =
    let parts = and_parts _ _ h in
    let section : c.section_index ≡ p.section = eqb-true _ _ parts.0 in
    let offsets = and_parts _ _ parts.1 in
    let first : c.start_offset ≤ p.offset = leb-true _ _ offsets.0 in
    let last : p.offset < c.end_offset = ltb-true _ _ offsets.1 in
    let at = before (section_at m.internal c.section_index) p.offset c.start_offset x (ap (λ n. address m.internal n p.offset) section ∙ is) first in
    let sum : at.0 + (p.offset - c.start_offset) ≡ x = at.1.1 in
    meets_there range (address m.internal c.section_index c.start_offset) at.0 x (c.end_offset - c.start_offset) at.1.0 (omega arith) (omega arith) low high

among_more : (q : ModuleSectionContribution → Bool) (c : ModuleSectionContribution) (cs : List ModuleSectionContribution) (n : ℕ)
    → is_among (map (λ c. c.module_index) (filter q cs)) n ≡ true → is_among (map (λ c. c.module_index) (filter q (c ∷ cs))) n ≡ true
among_more q c cs n h = elim (cases_Bool (q c)) [
  | inl passes ↦ rw passes (or_right _ _ h)
  | inr fails ↦ rw fails h
]

-- the first that passes a test is among those that pass a wider one
among_found : (test q : ModuleSectionContribution → Bool) → ((c : ModuleSectionContribution) → test c ≡ true → q c ≡ true) → (cs : List ModuleSectionContribution) (c : ModuleSectionContribution)
    → find test cs ≡ Some c → is_among (map (λ c. c.module_index) (filter q cs)) c.module_index ≡ true
among_found test q wider [] c is = absurd (none-some c is)
among_found test q wider (d ∷ ds) c is = elim (cases_Bool (test d)) [
  | inl passes ↦
      let here : find test (d ∷ ds) ≡ Some d = rw passes refl in
      let same : d ≡ c = same_Some _ _ (sym here ∙ is) in
      subst (λ (e : ModuleSectionContribution). is_among (map (λ c. c.module_index) (filter q (d ∷ ds))) e.module_index ≡ true) same
      (rw (wider d passes) (rw (eq-eqb d.module_index d.module_index refl) refl))
  | inr fails ↦
      let further : find test (d ∷ ds) ≡ find test ds = rw fails refl in
      among_more q d ds c.module_index (among_found test q wider ds c (sym further ∙ is))
]

-- ---- the holder of an address

abbrev Holding : Type 0
Holding = ModuleSectionContribution × PdbInternalSectionOffset

abbrev module_of : Holding → ℕ
module_of held = (held.0).module_index

among_place : (p : Parts) (range : Range ℕ) (there : Place) (x m : ℕ) (found : Option ModuleSectionContribution) → holder p.contributions (internal_place there) ≡ found
    → address p.map.internal there.section there.offset ≡ Some x → range.start ≤ x → x < range.end
    → option_map module_of (option_map (λ c. (c, internal_place there)) found) ≡ Some m → is_among (modules_holding p.map range p.contributions) m ≡ true
among_place p range there x m None holding is low high module_is = absurd (none-some m module_is)
among_place p range there x m (Some c) holding is low high module_is =
    subst (λ n. is_among (modules_holding p.map range p.contributions) n ≡ true) (same_Some _ _ module_is)
    (among_found (holds (internal_place there)) (may_hold p.map range) (λ d h. may_there p.map range (internal_place there) d x is low high h) p.contributions c holding)

among_placed : (p : Parts) (range : Range ℕ) (found : Option Place) (x m : ℕ) → place p.map.internal x ≡ found → x < 2 ^ 32 → range.start ≤ x → x < range.end
    → option_map module_of (held_at p (option_map internal_place found)) ≡ Some m → is_among (modules_holding p.map range p.contributions) m ≡ true
among_placed p range None x m placed fits low high module_is = absurd (none-some m module_is)
among_placed p range (Some there) x m placed fits low high module_is =
    among_place p range there x m (holder p.contributions (internal_place there)) refl (there_and_back p.map.internal x there fits placed) low high module_is

-- each module that holds the place of an RVA in the range is among the modules
pub has_holders : (p : Parts) (start end : ℕ) → HasHolders p start end (modules_between p start end)
has_holders p start end = record {
  each = λ a x m from to is low module_is.
      let within = covered p.map.to_internal start end a x from to is low in
      let range = cover (runs p.map.to_internal start end) in
      among_placed p range (place p.map.internal x) x m refl (omega arith) within.0 within.1
      (subst (λ (o : Option ℕ). option_map module_of (held_at p (option_map internal_place (option_and_then (place p.map.internal) o))) ≡ Some m) is module_is);
}

-- the same of modules that were gathered
pub gathered : (p : Parts) (start end : ℕ) (modules : List ℕ) → modules ≡ modules_between p start end → HasHolders p start end modules
gathered p start end modules same = subst (HasHolders p start end) (sym same) (has_holders p start end)
