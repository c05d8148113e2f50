-- The first export of each index as a module names it, as a loop goes over the exports.
use Rattle.std.proofs.Common.{◌≡◌, ◌≢◌, ℕ, inl, inr, List, [], ◌∷◌, ◌++◌, map, refl, sym, ap, ◌∙◌, true, false, cond, arith}
use Rattle.std.specs.Prelude.{Option, Some, None, ◌==◌, option_map, unwrap_or}
use Rattle.std.specs.BTreeMap.{BTreeMap, get, is_at}
use Rattle.std.specs.Iterator.{Yields}
use Rattle.std.specs.List.{find}
use Rattle.std.specs.Map.Iter.{TakesFirst}
use Rattle.std.specs.Option.{option_or}
use Rattle.std.specs.Ordering.{nat_cmp}
use Rattle.std.proofs.lemmas.Bool.Decides.{eqb_tells, nat_tests}
use Rattle.std.proofs.lemmas.List.{append-nil, map-append, map-id}
use Rattle.std.proofs.lemmas.Map.Iter.{rest_so_far}
use Rattle.pdb_subsections.specs.declared.exports.CrossModuleExport.{CrossModuleExport}
use Rattle.pdb_subsections.specs.declared.exports.CrossModuleExport.TheVariants as forms
use Rattle.pdb_subsections.specs.Exports.{Entry, first_export, export_form}
use Rattle.pdb_container.specs.IdIndex.{id_index}
use Rattle.pdb_container.specs.Index.{is_cross_module}
use Rattle.pdb_container.specs.TypeIndex.{type_index}
use Rattle.pdb_resolving.specs.KeptTables.{AreFirst, entry_of}

-- ---- the exports as they are gone over

-- the entry of an export is the one that it was made of
entry_again : (e : Entry) → entry_of (export_form e) ≡ e
entry_again e = elim (is_cross_module e.local) as (λ b. entry_of (cond b (forms.Id (record { 0 = id_index e.local }) (id_index e.global)) (forms.OfType (record { 0 = type_index e.local }) (type_index e.global))) ≡ e) [ true ↦ refl | false ↦ refl ]

entries_again : (exports : List Entry) → map entry_of (map export_form exports) ≡ exports
entries_again [] = refl
entries_again (e ∷ exports) = ap (λ x. x ∷ map entry_of (map export_form exports)) (entry_again e) ∙ ap (λ xs. e ∷ xs) (entries_again exports)

-- where nothing is left, all of the entries were gone over
pub all_gone_over : (exports : List Entry) (items left yielded : List CrossModuleExport) → items ≡ map export_form exports → Yields (TakesFirst (λ export. export)) items yielded left → left ≡ []
    → map entry_of yielded ≡ exports
all_gone_over exports items left yielded made passed none =
    let whole : items ≡ map (λ export. export) yielded ++ left = rest_so_far (λ export. export) yielded items left passed in
    let same : map export_form exports ≡ yielded = sym made ∙ whole ∙ ap (λ xs. map (λ export. export) yielded ++ xs) none ∙ append-nil (map (λ export. export) yielded) ∙ map-id yielded in
    ap (map entry_of) (sym same) ∙ entries_again exports

-- ---- the first of each index

-- an export after others counts where none of them has its index
first_behind : (exports : List Entry) (e : Entry) (local : ℕ)
    → first_export (exports ++ e ∷ []) local ≡ option_or (first_export exports local) (cond (e.local == local) (Some e.global) None)
first_behind [] e local = elim (e.local == local) as (λ b. option_map (λ x. x.global) (cond b (Some e) None) ≡ cond b (Some e.global) None) [ true ↦ refl | false ↦ refl ]
first_behind (x ∷ exports) e local =
    elim (x.local == local) as (λ b. option_map (λ y. y.global) (cond b (Some x) (find (λ y. y.local == local) (exports ++ e ∷ []))) ≡ option_or (option_map (λ y. y.global) (cond b (Some x) (find (λ y. y.local == local) exports))) (cond (e.local == local) (Some e.global) None))
    [ true ↦ refl | false ↦ first_behind exports e local ]

-- what is stored under an index stays, and one more is stored under its own where nothing is
value_kept : (global : ℕ) (before : Option ℕ) → Some (unwrap_or before global) ≡ option_or before (Some global)
value_kept global (Some x) = refl
value_kept global None = refl

others_kept : (before : Option ℕ) → before ≡ option_or before None
others_kept (Some x) = refl
others_kept None = refl

-- a key stands at the number that equals it
apart_is_not_at : (k q : ℕ) → k ≢ q → is_at (nat_cmp k) q ≡ false
apart_is_not_at k q apart = grind (arith, nat_tests)

same_is_at : (k q : ℕ) → k ≡ q → is_at (nat_cmp k) q ≡ true
same_is_at k q same = grind (arith, nat_tests)

kept_with : (firsts : BTreeMap ℕ ℕ) (key global local : ℕ)
    → cond (is_at (nat_cmp key) local) (Some (unwrap_or (get nat_cmp firsts key) global)) (get nat_cmp firsts local) ≡ option_or (get nat_cmp firsts local) (cond (key == local) (Some global) None)
kept_with firsts key global local = elim (eqb_tells key local) [
  | inl same ↦ rw (same_is_at key local same.1, same.0, same.1) (value_kept global (get nat_cmp firsts local))
  | inr apart ↦ rw (apart_is_not_at key local apart.1, apart.0) (others_kept (get nat_cmp firsts local))
]

-- what is stored under an index with one more export is what the first export of it gives
pub kept_further : (exports : List CrossModuleExport) (export : CrossModuleExport) (firsts : BTreeMap ℕ ℕ) (key value local : ℕ) (kept : Option ℕ) → AreFirst (map entry_of exports) firsts
    → key ≡ (entry_of export).local → value ≡ unwrap_or (get nat_cmp firsts key) (entry_of export).global → kept ≡ cond (is_at (nat_cmp key) local) (Some value) (get nat_cmp firsts local)
    → kept ≡ first_export (map entry_of (exports ++ export ∷ [])) local
kept_further exports export firsts key value local kept so_far named valued is =
    let e = entry_of export in
    is ∙ rw (valued, named) (kept_with firsts e.local e.global local)
    ∙ ap (λ o. option_or o (cond (e.local == local) (Some e.global) None)) (so_far.each local)
    ∙ sym (ap (λ xs. first_export xs local) (map-append entry_of exports (export ∷ [])) ∙ first_behind (map entry_of exports) e local)
