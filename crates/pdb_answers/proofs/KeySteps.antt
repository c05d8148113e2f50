-- Keys of functions: what they choose is what is chosen at a place.
use Rattle.std.proofs.Common.{◌≡◌, ℕ, Bool, true, false, cond, ◌&&◌, List, [], ◌∷◌, refl, sym, ap, ◌∙◌, subst, arith}
use Rattle.std.specs.Option.{option_or}
use Rattle.std.specs.Prelude.{Option, None, Some, option_map, is_some, nat_le, nat_lt, ◌==◌}
use Rattle.std.proofs.lemmas.Bool.{eq-eqb, eqb-true, le-leb, leb-true, le-ltb}
use Rattle.pdb_addresses.specs.declared.internal_section_offset.PdbInternalSectionOffset.{PdbInternalSectionOffset}
use Rattle.pdb_contributions.specs.declared.contribution.ModuleSectionContribution.{ModuleSectionContribution}
use Rattle.pdb_contributions.specs.Publics.{PublicFunction, is_at_or_before, last_at_or_before, not_before, public_over}
use Rattle.pdb_frames.specs.Choice.{Parts, Public, chosen}
use Rattle.pdb_module_data.specs.Procedures.{Procedure, over}

-- ---- an entry of the public list is the entry of its own place

both_of : (a b : Bool) → (a && b) ≡ true → (a ≡ true) × (b ≡ true)
both_of true b h = (refl, h)
both_of false b h = (cc)

-- what is at or before the start of such an entry is at or before the place, too
before_both : (p : PdbInternalSectionOffset) (f e : PublicFunction) → is_at_or_before p f ≡ true → is_at_or_before p e ≡ false → is_at_or_before f.start_offset e ≡ false
before_both p f e at not_at = by_test (is_at_or_before f.start_offset e) refl
  where
    by_test : (b : Bool) → is_at_or_before f.start_offset e ≡ b → b ≡ false
    by_test false is = refl
    by_test true is =
        let first = both_of ((f.start_offset).section == p.section) (nat_le (f.start_offset).offset p.offset) at in
        let second = both_of ((e.start_offset).section == (f.start_offset).section) (nat_le (e.start_offset).offset (f.start_offset).offset) is in
        let one : (e.start_offset).section ≡ p.section = eqb-true (e.start_offset).section (f.start_offset).section second.0 ∙ eqb-true (f.start_offset).section p.section first.0 in
        let a = leb-true (f.start_offset).offset p.offset first.1 in
        let b = leb-true (e.start_offset).offset (f.start_offset).offset second.1 in
        let same : ((e.start_offset).section == p.section) ≡ true = eq-eqb (e.start_offset).section p.section one in
        let low : nat_le (e.start_offset).offset p.offset ≡ true = le-leb (e.start_offset).offset p.offset (omega (arith, a, b)) in
        let here : is_at_or_before p e ≡ true = rw (same, low) refl in
        (cc)

none_or : (o : Option PublicFunction) (b : Bool) (e : PublicFunction) → option_or o (cond b (Some e) None) ≡ None → (o ≡ None) × (b ≡ false)
none_or None true e h = (cc)
none_or None false e h = (refl, refl)
none_or (Some g) b e h = (cc)

none_stays : (list : List PublicFunction) (p : PdbInternalSectionOffset) (f : PublicFunction) → is_at_or_before p f ≡ true → last_at_or_before list p ≡ None → last_at_or_before list f.start_offset ≡ None
none_stays [] p f at h = refl
none_stays (e ∷ es) p f at h =
    let parts = none_or (last_at_or_before es p) (is_at_or_before p e) e h in
    rw (none_stays es p f at parts.0, before_both p f e at parts.1) refl

at_itself : (f : PublicFunction) → is_at_or_before f.start_offset f ≡ true
at_itself f = rw (eq-eqb (f.start_offset).section (f.start_offset).section refl, le-leb (f.start_offset).offset (f.start_offset).offset (omega arith)) refl

last_step : (list : List PublicFunction) (p : PdbInternalSectionOffset) (e f : PublicFunction) (o : Option PublicFunction) (b : Bool) → last_at_or_before list p ≡ o → is_at_or_before p e ≡ b
    → option_or o (cond b (Some e) None) ≡ Some f → ((g : PublicFunction) → o ≡ Some g → last_at_or_before list g.start_offset ≡ Some g)
    → option_or (last_at_or_before list f.start_offset) (cond (is_at_or_before f.start_offset e) (Some e) None) ≡ Some f
last_step list p e f (Some g) b last at h stays =
    let same : g ≡ f = (cc) in
    let there : last_at_or_before list f.start_offset ≡ Some f = subst (λ (x : PublicFunction). last_at_or_before list x.start_offset ≡ Some x) same (stays g refl) in
    ap (λ o. option_or o (cond (is_at_or_before f.start_offset e) (Some e) None)) there
last_step list p e f None true last at h stays =
    let same : e ≡ f = (cc) in
    let before : is_at_or_before p f ≡ true = subst (λ (x : PublicFunction). is_at_or_before p x ≡ true) same at in
    let there = none_stays list p f before last in
    let itself : is_at_or_before f.start_offset e ≡ true = subst (λ (x : PublicFunction). is_at_or_before f.start_offset x ≡ true) (sym same) (at_itself f) in
    rw (there, itself) (ap Some same)
last_step list p e f None false last at h stays = (cc)

last_stays : (list : List PublicFunction) (p : PdbInternalSectionOffset) (f : PublicFunction) → last_at_or_before list p ≡ Some f → last_at_or_before list f.start_offset ≡ Some f
last_stays [] p f h = (cc)
last_stays (e ∷ es) p f h = last_step es p e f (last_at_or_before es p) (is_at_or_before p e) refl refl h (λ g is. last_stays es p g is)

kept_by : (b : Bool) (g f : PublicFunction) → cond b None (Some g) ≡ Some f → Some g ≡ Some f
kept_by true g f h = (cc)
kept_by false g f h = h

kept_at : (start : ℕ) (o : Option PublicFunction) (f : PublicFunction) → not_before start o ≡ Some f → o ≡ Some f
kept_at start None f h = (cc)
kept_at start (Some g) f h = kept_by (nat_lt (g.start_offset).offset start) g f h

pub over_itself : (list : List PublicFunction) (start : ℕ) (p : PdbInternalSectionOffset) (f : PublicFunction) → public_over list start p ≡ Some f → public_over list (f.start_offset).offset f.start_offset ≡ Some f
over_itself list start p f h =
    let there = last_stays list p f (kept_at start (last_at_or_before list p) f h) in
    let low = le-ltb (f.start_offset).offset (f.start_offset).offset (omega arith) in
    rw there (rw low refl)

-- ---- what a key chooses

pub by_place : (p : Parts) (procedures : List Procedure) (c : ModuleSectionContribution) (place : PdbInternalSectionOffset) (f : PublicFunction) (start : PdbInternalSectionOffset) → over procedures place ≡ None
    → public_over p.publics c.start_offset place ≡ Some f → f.start_offset ≡ start → option_map Public (public_over p.publics start.offset start) ≡ chosen p procedures c place
by_place p procedures c place f start none here at =
    let itself : public_over p.publics start.offset start ≡ Some f = subst (λ (x : PdbInternalSectionOffset). public_over p.publics x.offset x ≡ Some f) at (over_itself p.publics c.start_offset place f here) in
    rw (itself, none, here) refl

-- where there is no procedure with the number that was found, none is over the place
pub numbered_none : {B : Type 0} (f : B → Procedure) (found : Option B) (numbered at : Option Procedure) → option_map f found ≡ numbered → false ≡ is_some found → numbered ≡ at → at ≡ None
numbered_none f None numbered at is none same = sym same ∙ sym is
numbered_none f (Some q) numbered at is none same = (cc)

pub over_as : (list other : List PublicFunction) (start begin : ℕ) (place : PdbInternalSectionOffset) (o : Option PublicFunction) → list ≡ other → start ≡ begin
    → o ≡ public_over list start place → public_over other begin place ≡ o
over_as list other start begin place o same at is = sym (subst (λ (l : List PublicFunction). o ≡ public_over l begin place) same (subst (λ (s : ℕ). o ≡ public_over list s place) at is))
