-- Gathering entries of the public list, and looking up in it.
use Rattle.std.proofs.Common.{◌≡◌, ℕ, ◌+◌, ◌<◌, ◌≤◌, inl, inr, false, List, [], ◌∷◌, ◌++◌, Option}
use Rattle.std.proofs.Common.{None, Some, Result, Ok, Err, length, drop, get_or, refl, sym, ap, ◌∙◌}
use Rattle.std.proofs.Common.{append_assoc, arith}
use Rattle.std.specs.Prelude.{◌==◌}
use Rattle.std.proofs.lemmas.Bool.{cases_Bool, lt-leb}
use Rattle.std.proofs.lemmas.List.{append-nil, drop_more, drop_all}
use Rattle.pdb_container.specs.Fault.{Fault, ◌>>=◌}
use Rattle.pdb_container.specs.Listing.{Listing, ending, before, whole_with}
use Rattle.pdb_addresses.specs.declared.sections.ImageSectionHeader.{ImageSectionHeader}
use Rattle.pdb_addresses.specs.Sections.{may_execute}
use Rattle.pdb_symbol_records.specs.declared.symbol_data.SeparatedCodeSymbol.{SeparatedCodeSymbol}
use Rattle.pdb_symbol_records.specs.Forms as forms
use Rattle.pdb_symbol_records.specs.Forms.{SymbolForm}
use Rattle.pdb_symbol_records.specs.Kinds.{is_public, is_procedure, is_thunk, is_separated_code}
use Rattle.pdb_symbol_records.specs.Kinds.{is_inline_site}
use Rattle.pdb_symbol_records.specs.Symbols.{Symbol, kind_of, payload_of}
use Rattle.pdb_symbol_records.specs.Records.{symbol_form_of, form_of, as_form, end_form}
use Rattle.pdb_symbol_records.specs.Records.{procedure_symbol_at, thunk_of, separated_code_of}
use Rattle.pdb_symbol_records.specs.Records.{inline_site_of}
use Rattle.pdb_contributions.specs.Publics.{PublicFunction, section_end}
use Rattle.pdb_contributions.specs.Publics.{section_ends_from, section_ends, as_public}
use Rattle.pdb_contributions.specs.Publics.{entry_of_public, entries_of_symbols, entries_read}
use Rattle.pdb_contributions.specs.Publics.{are_whole}

-- ---- symbols that aren't public

end_is_none : (kind : ℕ) → as_public (end_form kind) ≡ None
unfolding end_form
end_is_none kind = elim (cases_Bool (kind == 0x0006)) [
  | inl h ↦ rw h refl
  | inr h ↦ elim (cases_Bool (kind == 0x114f)) [
    | inl h' ↦ rw (h, h') refl
    | inr h' ↦ elim (cases_Bool (kind == 0x114e)) [
      | inl h'' ↦ rw (h, h', h'') refl
      | inr h'' ↦ rw (h, h', h'') refl
    ]
  ]
]

procedure_is_none : (r : Result forms.ProcedureForm Fault)
    → as_public (as_form forms.Procedure r) ≡ None
procedure_is_none (Ok f) = refl
procedure_is_none (Err e) = refl

thunk_is_none : (r : Result forms.ThunkForm Fault) → as_public (as_form forms.Thunk r) ≡ None
thunk_is_none (Ok f) = refl
thunk_is_none (Err e) = refl

code_is_none : (r : Result SeparatedCodeSymbol Fault)
    → as_public (as_form forms.SeparatedCode r) ≡ None
code_is_none (Ok f) = refl
code_is_none (Err e) = refl

site_is_none : (r : Result forms.InlineSiteForm Fault)
    → as_public (as_form forms.InlineSite r) ≡ None
site_is_none (Ok f) = refl
site_is_none (Err e) = refl

no_public_form : (kind : ℕ) (bytes : List ℕ) → is_public kind ≡ false
    → as_public (form_of kind bytes) ≡ None
unfolding form_of
no_public_form kind bytes other = elim (cases_Bool (is_procedure kind)) [
  | inl h ↦ rw (other, h) (procedure_is_none (procedure_symbol_at kind bytes))
  | inr h ↦ elim (cases_Bool (is_thunk kind)) [
    | inl h' ↦ rw (other, h, h') (thunk_is_none (thunk_of kind bytes))
    | inr h' ↦ elim (cases_Bool (is_separated_code kind)) [
      | inl h'' ↦ rw (other, h, h', h'') (code_is_none (separated_code_of bytes))
      | inr h'' ↦ elim (cases_Bool (is_inline_site kind)) [
        | inl site ↦ rw (other, h, h', h'', site) (site_is_none (inline_site_of kind bytes))
        | inr none ↦ rw (other, h, h', h'', none) (end_is_none kind)
      ]
    ]
  ]
]

-- a symbol of another kind says no public one
pub no_public : (s : Symbol) → is_public (kind_of s) ≡ false → as_public (symbol_form_of s) ≡ None
unfolding symbol_form_of
no_public s other = no_public_form (kind_of s) (payload_of s) other

-- ---- the entries of symbols

-- entries before those that are still to be read
abbrev pub entries_front : List PublicFunction → Result (List PublicFunction) Fault
    → Result (List PublicFunction) Fault
entries_front front read = read >>= λ others. Ok (front ++ others)

-- nothing was read
pub read_start : (sections : List ImageSectionHeader) (l : Listing Symbol)
    → entries_front [] (entries_read sections l) ≡ entries_read sections l
read_start sections l = elim (entries_read sections l)
    as (λ (r : Result (List PublicFunction) Fault). entries_front [] r ≡ r) [
      | Ok xs ↦ refl
      | Err e ↦ refl
    ]

regrouped : (sections : List ImageSectionHeader) (front : List PublicFunction) (x : Symbol)
    (others : List Symbol) (fault : Option Fault)
    → entries_front front (whole_with fault (x ∷ others)
    >>= λ all. Ok (entries_of_symbols sections all))
    ≡ entries_front (front ++ entry_of_public sections (as_public (symbol_form_of x)))
    (whole_with fault others >>= λ all. Ok (entries_of_symbols sections all))
regrouped sections front x others None =
    ap (λ (xs : List PublicFunction). Ok xs)
    (sym (append_assoc front (entry_of_public sections (as_public (symbol_form_of x)))
    (entries_of_symbols sections others)))
regrouped sections front x others (Some e) = refl

-- one more symbol, and its entry if it has one
pub read_more : (sections : List ImageSectionHeader) (front grown : List PublicFunction)
    (l others : Listing Symbol) (total : Result (List PublicFunction) Fault) (x : Symbol)
    → l ≡ before x others → grown ≡ front ++ entry_of_public sections (as_public (symbol_form_of x))
    → entries_front front (entries_read sections l) ≡ total
    → entries_front grown (entries_read sections others) ≡ total
read_more sections front grown l others total x step grows so_far =
    ap (λ (g : List PublicFunction). entries_front g (entries_read sections others)) grows
    ∙ sym (regrouped sections front x others.items others.fault)
    ∙ ap (λ (m : Listing Symbol). entries_front front (entries_read sections m)) (sym step) ∙ so_far

-- the list ends well
pub read_end : (sections : List ImageSectionHeader) (front : List PublicFunction)
    (l : Listing Symbol) (total : Result (List PublicFunction) Fault) → l ≡ ending None
    → entries_front front (entries_read sections l) ≡ total → total ≡ Ok front
read_end sections front l total end so_far =
    sym so_far ∙ ap (λ (m : Listing Symbol). entries_front front (entries_read sections m)) end
    ∙ ap (λ (xs : List PublicFunction). Ok xs) (append-nil front)

-- the list ends with a fault
pub read_fault : (sections : List ImageSectionHeader) (front : List PublicFunction)
    (l : Listing Symbol) (total : Result (List PublicFunction) Fault) (e : Fault)
    → l ≡ ending (Some e) → entries_front front (entries_read sections l) ≡ total → total ≡ Err e
read_fault sections front l total e end so_far =
    sym so_far ∙ ap (λ (m : Listing Symbol). entries_front front (entries_read sections m)) end

-- ---- symbols that are there to their end

whole_behind : (x : Symbol) (others : List Symbol) (fault : Option Fault)
    → are_whole (record { items = others; fault = fault })
    ≡ are_whole (record { items = x ∷ others; fault = fault })
whole_behind x others None = refl
whole_behind x others (Some e) = refl

-- one more symbol
pub whole_more : (l others : Listing Symbol) (total : Result (Unit {0}) Fault) (x : Symbol)
    → l ≡ before x others → are_whole l ≡ total → are_whole others ≡ total
whole_more l others total x step so_far = whole_behind x others.items others.fault
    ∙ ap are_whole (sym step) ∙ so_far

-- the list ends well
pub whole_end : (l : Listing Symbol) (total : Result (Unit {0}) Fault) → l ≡ ending None
    → are_whole l ≡ total → total ≡ Ok tt
whole_end l total end so_far = sym so_far ∙ ap are_whole end

-- the list ends with a fault
pub whole_fault : (l : Listing Symbol) (total : Result (Unit {0}) Fault) (e : Fault)
    → l ≡ ending (Some e) → are_whole l ≡ total → total ≡ Err e
whole_fault l total e end so_far = sym so_far ∙ ap are_whole end

-- ---- the ends of sections

-- no section was gone over
pub ends_start : (front : List PublicFunction) (sections : List ImageSectionHeader)
    → front ++ section_ends_from (0 + 1) (drop 0 sections) ≡ front ++ section_ends sections
ends_start front sections = refl

-- one more section
pub ends_more : (front grown total : List PublicFunction) (sections : List ImageSectionHeader)
    (index number : ℕ) (s : ImageSectionHeader) → index < length sections
    → s ≡ get_or sections index s → number ≡ index + 1
    → grown ≡ front ++ section_end number s → front
    ++ section_ends_from (index + 1) (drop index sections) ≡ total
    → grown ++ section_ends_from (index + 1 + 1) (drop (index + 1) sections) ≡ total
ends_more front grown total sections index number s lt at is grows so_far =
    let one : section_end number s ≡ section_end (index + 1) (get_or sections index s) =
    ap (λ n. section_end n s) is ∙ ap (section_end (index + 1)) at in
    ap (λ (g : List PublicFunction). g ++ section_ends_from (index + 1 + 1)
    (drop (index + 1) sections)) (grows ∙ ap (λ (es : List PublicFunction). front ++ es) one)
    ∙ append_assoc front (section_end (index + 1) (get_or sections index s))
    (section_ends_from (index + 1 + 1) (drop (index + 1) sections))
    ∙ ap (λ (ss : List ImageSectionHeader). front ++ section_ends_from (index + 1) ss)
    (sym (drop_more sections index s lt)) ∙ so_far

-- none is left
pub ends_done : (front total : List PublicFunction) (sections : List ImageSectionHeader) (index : ℕ)
    → length sections ≤ index → front ++ section_ends_from (index + 1) (drop index sections) ≡ total
    → front ≡ total
ends_done front total sections index past so_far =
    sym (append-nil front)
    ∙ ap (λ (ss : List ImageSectionHeader). front ++ section_ends_from (index + 1) ss)
    (sym (drop_all index sections past)) ∙ so_far

no_ends : (number : ℕ) (sections : List ImageSectionHeader) → 65535 < number
    → section_ends_from number sections ≡ []
no_ends number [] past = refl
no_ends number (s ∷ sections) past =
    let none : section_end number s ≡ [] = elim (cases_Bool (may_execute s.characteristics)) [
      | inl h ↦ rw (h, lt-leb number 65535 past) refl
      | inr h ↦ rw h refl
    ] in
    rw none (no_ends (number + 1) sections (omega arith))

-- past number 65535 there are none
pub ends_past : (front total : List PublicFunction) (sections : List ImageSectionHeader) (index : ℕ)
    → 65535 < index + 1 → front ++ section_ends_from (index + 1) (drop index sections) ≡ total
    → front ≡ total
ends_past front total sections index past so_far =
    sym (append-nil front) ∙ ap (λ (es : List PublicFunction). front ++ es)
    (sym (no_ends (index + 1) (drop index sections) past)) ∙ so_far
