-- The steps of the loops over symbols and procedures.
use Rattle.std.proofs.Common.{◌≡◌, ℕ, Bool, true, false, cond, ◌||◌, ◌&&◌, List, [], ◌∷◌, ◌++◌, Result, Ok, Err, refl, sym, ap, ◌∙◌, arith}
use Rattle.std.specs.Prelude.{Option, None, Some, ◌==◌}
use Rattle.std.specs.declared.cmp.Ordering.{Ordering}
use Rattle.std.specs.declared.cmp.Ordering.TheVariants.{Less, Equal, Greater}
use Rattle.std.specs.Ordering.{nat_cmp, ordering_then, is_eq}
use Rattle.std.proofs.lemmas.Bool.Decides.{nat_tests}
use Rattle.pdb_addresses.specs.declared.internal_section_offset.PdbInternalSectionOffset.{PdbInternalSectionOffset}
use Rattle.pdb_container.specs.Fault.{Fault, ◌>>=◌}
use Rattle.pdb_container.specs.Listing.{Listing, ending, before, whole, whole_with}
use Rattle.pdb_symbol_records.specs.Forms as forms
use Rattle.pdb_symbol_records.specs.Forms.{SymbolForm}
use Rattle.pdb_symbol_records.specs.Kinds.{is_public, is_procedure, is_thunk, is_separated_code, is_inline_site}
use Rattle.pdb_symbol_records.specs.Records.{as_form, end_form, form_of, symbol_form_of}
use Rattle.pdb_symbol_records.specs.Symbols.{Symbol, kind_of}
use Rattle.pdb_module_data.specs.Procedures.{Procedure, is_procedure_kind, said_procedure, with_code, kept_of, kept_before, kept_behind, is_at, place_cmp, has_start, onto_new, firsts_onto, procedures_of}

-- ---- symbols of other kinds

either : (last : Option Procedure) (i : ℕ) (b : Bool) (x y : Result SymbolForm Fault) → said_procedure last i x ≡ None → said_procedure last i y ≡ None → said_procedure last i (cond b x y) ≡ None
either last i true x y hx hy = hx
either last i false x y hx hy = hy

other_form : {A : Type 0} (last : Option Procedure) (i : ℕ) (make : A → SymbolForm) (read : Result A Fault) → ((form : A) → said_procedure last i (Ok (make form)) ≡ None) → said_procedure last i (as_form make read) ≡ None
other_form last i make (Ok form) h = h form
other_form last i make (Err e) h = refl

end_is_none : (last : Option Procedure) (i kind : ℕ) → said_procedure last i (end_form kind) ≡ None
unfolding end_form
end_is_none last i kind = either last i (kind == 0x0006) _ _ refl (either last i (kind == 0x114f) _ _ refl (either last i (kind == 0x114e) _ _ refl refl))

no_one : (a b c : Bool) → ((a || b) || c) ≡ false → (a ≡ false) × (b ≡ false) × (c ≡ false)
no_one false false false h = (refl, refl, refl)
no_one false false true h = absurd (cc)
no_one false true c h = absurd (cc)
no_one true b c h = absurd (cc)

-- a symbol of another kind is no procedure
pub no_procedure : (last : Option Procedure) (s : Symbol) → is_procedure_kind (kind_of s) ≡ false → said_procedure last s.index (symbol_form_of s) ≡ None
unfolding symbol_form_of form_of
no_procedure last s h =
    let none = no_one (is_procedure (kind_of s)) (is_thunk (kind_of s)) (is_separated_code (kind_of s)) h in
    either last s.index (is_public (kind_of s)) _ _ (other_form last s.index forms.Public _ (λ form. refl)) (rw (none.0, none.1, none.2)
    (either last s.index (is_inline_site (kind_of s)) _ _ (other_form last s.index forms.InlineSite _ (λ form. refl)) (end_is_none last s.index (kind_of s))))

-- ---- the procedures that are taken

-- procedures and the one that was taken last, with those of the symbols that are still to come
abbrev pub procedures_left : List Procedure → Option Procedure → Listing Symbol → Result (List Procedure) Fault
procedures_left procedures last left = whole left >>= λ all. Ok (firsts_onto procedures (kept_behind last all))

-- before the first symbol
pub kept_start : (left : Listing Symbol) → procedures_left [] None left ≡ procedures_of left
kept_start left = refl

kept_here : (procedures : List Procedure) (last : Option Procedure) (q : Procedure) (x : Symbol) (others : List Symbol) (fault : Option Fault) → kept_of last x ≡ Some q
    → (whole_with fault (x ∷ others) >>= λ all. Ok (firsts_onto procedures (kept_behind last all))) ≡ (whole_with fault others >>= λ all. Ok (firsts_onto (onto_new procedures q) (kept_behind (Some q) all)))
kept_here procedures last q x others None kept = ap (λ k. Ok (firsts_onto procedures (kept_before k last (λ l. kept_behind l others)))) kept
kept_here procedures last q x others (Some e) kept = refl

not_here : (procedures : List Procedure) (last : Option Procedure) (x : Symbol) (others : List Symbol) (fault : Option Fault) → kept_of last x ≡ None
    → (whole_with fault (x ∷ others) >>= λ all. Ok (firsts_onto procedures (kept_behind last all))) ≡ (whole_with fault others >>= λ all. Ok (firsts_onto procedures (kept_behind last all)))
not_here procedures last x others None kept = ap (λ k. Ok (firsts_onto procedures (kept_before k last (λ l. kept_behind l others)))) kept
not_here procedures last x others (Some e) kept = refl

-- a symbol more, which is taken
pub kept_more : (procedures new : List Procedure) (last : Option Procedure) (q : Procedure) (x : Symbol) (left others : Listing Symbol) (total : Result (List Procedure) Fault)
    → left ≡ before x others → kept_of last x ≡ Some q → new ≡ onto_new procedures q → procedures_left procedures last left ≡ total → procedures_left new (Some q) others ≡ total
kept_more procedures new last q x left others total step kept is so_far =
    ap (λ (ps : List Procedure). procedures_left ps (Some q) others) is ∙ sym (kept_here procedures last q x others.items others.fault kept) ∙ sym (ap (procedures_left procedures last) step) ∙ so_far

-- a symbol more, which isn't
pub kept_passed : (procedures : List Procedure) (last : Option Procedure) (x : Symbol) (left others : Listing Symbol) (total : Result (List Procedure) Fault)
    → left ≡ before x others → kept_of last x ≡ None → procedures_left procedures last left ≡ total → procedures_left procedures last others ≡ total
kept_passed procedures last x left others total step kept so_far =
    sym (not_here procedures last x others.items others.fault kept) ∙ sym (ap (procedures_left procedures last) step) ∙ so_far

-- a symbol more, of another kind
pub plain_passed : (procedures : List Procedure) (last : Option Procedure) (x : Symbol) (left others : Listing Symbol) (total : Result (List Procedure) Fault)
    → left ≡ before x others → is_procedure_kind (kind_of x) ≡ false → procedures_left procedures last left ≡ total → procedures_left procedures last others ≡ total
plain_passed procedures last x left others total step plain so_far =
    kept_passed procedures last x left others total step (ap with_code (no_procedure last x plain)) so_far

-- symbols that ended well
pub kept_end : (procedures : List Procedure) (last : Option Procedure) (left : Listing Symbol) (total : Result (List Procedure) Fault) → left ≡ ending None → procedures_left procedures last left ≡ total → total ≡ Ok procedures
kept_end procedures last left total end so_far = sym so_far ∙ ap (procedures_left procedures last) end

-- symbols that ended with a fault
pub kept_fault : (procedures : List Procedure) (last : Option Procedure) (left : Listing Symbol) (total : Result (List Procedure) Fault) (e : Fault) → left ≡ ending (Some e) → procedures_left procedures last left ≡ total → total ≡ Err e
kept_fault procedures last left total e end so_far = sym so_far ∙ ap (procedures_left procedures last) end

-- ---- starts

-- equal places are those that compare so
cmp_number : (x y : ℕ) → is_eq (nat_cmp x y) ≡ (x == y)
cmp_number x y = grind (arith, nat_tests)

cmp_then : (o p : Ordering) → is_eq (ordering_then o p) ≡ (is_eq o && is_eq p)
cmp_then Less p = refl
cmp_then Equal p = refl
cmp_then Greater p = refl

cmp_place : (a b : PdbInternalSectionOffset) → is_eq (place_cmp (a.section, a.offset) (b.section, b.offset)) ≡ is_at a b
cmp_place a b = cmp_then (nat_cmp a.section b.section) (nat_cmp a.offset b.offset) ∙ ap (λ t. t && is_eq (nat_cmp a.offset b.offset)) (cmp_number a.section b.section) ∙ ap (λ t. (a.section == b.section) && t) (cmp_number a.offset b.offset)

start_added : (kept : List Procedure) (p : Procedure) (q : PdbInternalSectionOffset) → has_start (kept ++ p ∷ []) q ≡ cond (is_at p.offset q) true (has_start kept q)
start_added [] p q = elim (is_at p.offset q) as (λ b. (b || false) ≡ cond b true false) [ true ↦ refl | false ↦ refl ]
start_added (k ∷ kept) p q =
    rw (start_added kept p q) (elim (is_at k.offset q) as (λ b. (b || cond (is_at p.offset q) true (has_start kept q)) ≡ cond (is_at p.offset q) true (b || has_start kept q)) [
      | true ↦ elim (is_at p.offset q) as (λ t. true ≡ cond t true true) [ true ↦ refl | false ↦ refl ]
      | false ↦ refl
    ])

-- one more start in the set is one more procedure that is taken
pub starts_more : (kept : List Procedure) (p : Procedure) (q : PdbInternalSectionOffset) (before now : Bool) → now ≡ cond (is_eq (place_cmp ((p.offset).section, (p.offset).offset) (q.section, q.offset))) true before → before ≡ has_start kept q → now ≡ has_start (kept ++ p ∷ []) q
starts_more kept p q before now added same =
    added ∙ ap (λ t. cond t true before) (cmp_place p.offset q) ∙ ap (λ t. cond (is_at p.offset q) true t) same ∙ sym (start_added kept p q)
