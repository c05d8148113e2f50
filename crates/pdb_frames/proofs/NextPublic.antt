-- The distance to the next public entry, in a list whose places ascend.
use Rattle.std.proofs.Common.{◌≡◌, ℕ, ◌-◌, ◌<◌, ◌≤◌, min, inl, inr, true, false, Option, None, Some, List, [], ◌∷◌, suc, refl, sym, ap, ◌∙◌, arith}
use Rattle.std.specs.Prelude.{slice_get, ◌==◌}
use Rattle.std.specs.List.{flat_map}
use Rattle.std.proofs.lemmas.Bool.{lt-ltb, le-ltb, cases_Bool}
use Rattle.std.proofs.lemmas.Bool.Decides.{nat_tests}
use Rattle.pdb_addresses.specs.declared.internal_section_offset.PdbInternalSectionOffset.{PdbInternalSectionOffset}
use Rattle.pdb_addresses.specs.SectionRun.{nearer, up_to_next}
use Rattle.pdb_contributions.specs.Publics.{PublicFunction, Rises, is_before, is_behind, next_public}
use Rattle.pdb_frames.specs.NearBounds.{public_bounds}
use Rattle.pdb_contributions.proofs.NextBounds.{last_asked}

abbrev Place : Type 0
Place = PdbInternalSectionOffset

-- what one entry adds
abbrev near_of : Place → PublicFunction → ℕ → ℕ
near_of p f far = up_to_next (public_bounds p f) p.offset far

-- all entries lie past an offset of the place's section, or in another one
abbrev AllPast : Place → ℕ → List PublicFunction → Type 0
AllPast p least [] = Unit {0}
AllPast p least (f ∷ others) = ((((f.start_offset).section == p.section) ≡ true → least ≤ (f.start_offset).offset)) × AllPast p least others

not_behind : (p : Place) (f : PublicFunction) (far : ℕ) → is_behind p f ≡ false → near_of p f far ≡ far
not_behind p f far h = elim (cases_Bool ((f.start_offset).section == p.section)) [
  | inl here ↦ (let le : (f.start_offset).offset ≤ p.offset = grind (arith, nat_tests) in rw (here, le-ltb p.offset (f.start_offset).offset le) refl)
  | inr other ↦ rw other refl
]

behind : (p : Place) (f : PublicFunction) (far : ℕ) → is_behind p f ≡ true → near_of p f far ≡ nearer p.offset (f.start_offset).offset far
behind p f far h = let here : ((f.start_offset).section == p.section) ≡ true = grind (arith, nat_tests) in rw here refl

-- what lies further adds nothing to what is near
further : (p : Place) (least far : ℕ) (list : List PublicFunction) → p.offset < least → AllPast p least list
    → nearer p.offset least (up_to_next (flat_map (public_bounds p) list) p.offset far) ≡ nearer p.offset least far
further p least far [] lt past = refl
further p least far (f ∷ others) lt past = elim (cases_Bool ((f.start_offset).section == p.section)) [
  | inl here ↦ (let le = past.0 here in let rest = further p least far others lt past.1 in
      rw (here, lt-ltb p.offset least lt, lt-ltb p.offset (f.start_offset).offset (omega arith))
      (let t = lt-ltb p.offset least lt in let same : min (up_to_next (flat_map (public_bounds p) others) p.offset far) (least - p.offset) ≡ min far (least - p.offset) = rw t at rest in omega (arith, same)))
  | inr other ↦ rw other (further p least far others lt past.1)
]

rises_behind : (f : PublicFunction) (others : List PublicFunction) → Rises (f ∷ others) → Rises others
rises_behind f others rise = record { each = λ i j a b lt x y. rise.each (suc i) (suc j) a b (omega arith) x y }

later_past : (p : Place) (f g : PublicFunction) → is_behind p f ≡ true → is_before f.start_offset g.start_offset ≡ true → ((g.start_offset).section == p.section) ≡ true → (f.start_offset).offset ≤ (g.start_offset).offset
later_past p f g h b here = grind (arith, nat_tests)

all_past : (p : Place) (f : PublicFunction) (list : List PublicFunction) → is_behind p f ≡ true → ((i : ℕ) (g : PublicFunction) → slice_get list i ≡ Some g → is_before f.start_offset g.start_offset ≡ true) → AllPast p (f.start_offset).offset list
all_past p f [] h before = tt
all_past p f (g ∷ others) h before = (later_past p f g h (before 0 g refl), all_past p f others h (λ i x e. before (suc i) x e))

behind_offset : (p : Place) (f : PublicFunction) → is_behind p f ≡ true → p.offset < (f.start_offset).offset
behind_offset p f h = grind (arith, nat_tests)

-- the distance to what may be the next entry
abbrev near_to : Place → ℕ → Option PublicFunction → ℕ
near_to p far None = far
near_to p far (Some f) = nearer p.offset (f.start_offset).offset far

near : (p : Place) (far : ℕ) (list : List PublicFunction) → Rises list → near_to p far (next_public list p) ≡ up_to_next (flat_map (public_bounds p) list) p.offset far
near p far [] rise = refl
near p far (f ∷ others) rise = elim (cases_Bool (is_behind p f)) [
  | inl here ↦ (let step = behind p f (up_to_next (flat_map (public_bounds p) others) p.offset far) here in
      let first = last_asked (public_bounds p f) (flat_map (public_bounds p) others) p.offset far in
      let more = further p (f.start_offset).offset far others (behind_offset p f here) (all_past p f others here (λ i g e. rise.each 0 (suc i) f g (omega arith) refl e)) in
      rw here (sym (first ∙ step ∙ more)))
  | inr not ↦ (let step = not_behind p f (up_to_next (flat_map (public_bounds p) others) p.offset far) not in
      let first = last_asked (public_bounds p f) (flat_map (public_bounds p) others) p.offset far in
      rw not (near p far others (rises_behind f others rise) ∙ sym (first ∙ step)))
]

-- the next entry is the nearest bound
pub next_is_near : (p : Place) (far : ℕ) (list : List PublicFunction) (f : PublicFunction) → Rises list → Some f ≡ next_public list p → nearer p.offset (f.start_offset).offset far ≡ up_to_next (flat_map (public_bounds p) list) p.offset far
next_is_near p far list f rise e = ap (near_to p far) e ∙ near p far list rise

-- without a next entry there is no bound
pub none_is_near : (p : Place) (far : ℕ) (list : List PublicFunction) → Rises list → None ≡ next_public list p → far ≡ up_to_next (flat_map (public_bounds p) list) p.offset far
none_is_near p far list rise e = ap (near_to p far) e ∙ near p far list rise
