-- The first export of an index, and that there is none.
use Rattle.std.proofs.Common.{◌≡◌, ◌≢◌, ◌↔◌, ℕ, inl, inr, List, [], ◌∷◌, ◌++◌, refl, sym, ap, ◌∙◌}
use Rattle.std.specs.Prelude.{None, Some}
use Rattle.std.proofs.lemmas.Bool.{cases_eq, eq-eqb, ne_eqb}
use Rattle.pdb_subsections.specs.declared.exports.Export.{Export}
use Rattle.pdb_subsections.specs.Exports.{first_export, Lack, IsFirst}

taken : (e : Export) (exports : List Export) (local : ℕ) → e.local ≡ local
    → first_export (e ∷ exports) local ≡ Some e.global
taken e exports local it = rw (eq-eqb e.local local it) refl

passed : (e : Export) (exports : List Export) (local : ℕ) → e.local ≢ local
    → first_export (e ∷ exports) local ≡ first_export exports local
passed e exports local other = rw (ne_eqb e.local local other) refl

first_is : (exports : List Export) (local global : ℕ) → first_export exports local ≡ Some global
    → IsFirst exports local global
first_is [] local global found = absurd cc
first_is (e ∷ exports) local global found = elim (cases_eq e.local local) [
  | inl it ↦
      let given : Some e.global ≡ Some global = sym (taken e exports local it) ∙ found in
      let same : e.global ≡ global = cc in (
        [],
        exports,
        tt,
        ap (λ l. record { local = l; global = e.global } ∷ exports) it
            ∙ ap (λ g. record { local = local; global = g } ∷ exports) same,
      )
  | inr other ↦
      let behind = first_is exports local global (sym (passed e exports local other) ∙ found) in
      (e ∷ behind.0, behind.1, (other, behind.2), ap (λ es. e ∷ es) behind.3)
]

behind_others : (front others : List Export) (local global : ℕ) → Lack front local
    → first_export (front ++ record { local = local; global = global } ∷ others) local ≡ Some global
behind_others [] others local global lack =
    taken (record { local = local; global = global }) others local refl
behind_others (e ∷ front) others local global lack =
    passed e (front ++ record { local = local; global = global } ∷ others) local lack.0
    ∙ behind_others front others local global lack.1

is_first : (exports : List Export) (local global : ℕ) → IsFirst exports local global
    → first_export exports local ≡ Some global
is_first exports local global first = ap (λ es. first_export es local) first.3
    ∙ behind_others first.0 first.1 local global first.2

none_there : (exports : List Export) (local : ℕ) → first_export exports local ≡ None
    → Lack exports local
none_there [] local none = tt
none_there (e ∷ exports) local none = elim (cases_eq e.local local) [
  | inl it ↦ let wrong : Some e.global ≡ None = sym (taken e exports local it) ∙ none in absurd cc
  | inr other ↦ (other, none_there exports local (sym (passed e exports local other) ∙ none))
]

none_found : (exports : List Export) (local : ℕ) → Lack exports local
    → first_export exports local ≡ None
none_found [] local lack = refl
none_found (e ∷ exports) local lack = passed e exports local lack.0
    ∙ none_found exports local lack.1

-- an export is found exactly where it is the first of its index
pub found : (exports : List Export) (local global : ℕ) → (first_export exports local ≡ Some global)
    ↔ IsFirst exports local global
found exports local global = (first_is exports local global, is_first exports local global)

-- none is found exactly where no export has the index
pub missing : (exports : List Export) (local : ℕ) → (first_export exports local ≡ None)
    ↔ Lack exports local
missing exports local = (none_there exports local, none_found exports local)
