-- Gathering where functions begin.
use Rattle.std.proofs.Common.{◌≡◌, ℕ, ◌+◌, ◌<◌, ◌≤◌, inl, inr, Bool, true, false, ◌||◌, List, [], ◌∷◌, ◌++◌, map, Option, None, Some, length, drop, get_or, eqb, refl, sym, ap, ◌∙◌, append_assoc, arith}
use Rattle.std.specs.Prelude.{◌==◌, option_map}
use Rattle.std.specs.List.{dedup, dedup_from, list_any}
use Rattle.std.specs.List.Sorted.{IsSorted, IsPermutation}
use Rattle.std.specs.Ordering.{nat_cmp}
use Rattle.std.proofs.lemmas.Bool.{cases_Bool}
use Rattle.std.proofs.lemmas.Bool.Decides.{nat_tests}
use Rattle.std.proofs.lemmas.Grind.{flat_map-append}
use Rattle.std.proofs.lemmas.List.{append-nil, drop_more, drop_all}
use Rattle.std.proofs.lemmas.List.Sorted.{list_any-IsPermutation}
use Rattle.std.proofs.lemmas.Map.Keys.{IsStrictlyIncreasing-dedup, sorted_from_strictly_increasing}
use Rattle.pdb_addresses.specs.declared.internal_section_offset.PdbInternalSectionOffset.{PdbInternalSectionOffset}
use Rattle.pdb_addresses.specs.declared.rva.Rva.{Rva}
use Rattle.pdb_addresses.specs.Addresses.{Map, outer_of_place}
use Rattle.pdb_addresses.specs.Numbers.{image_address}
use Rattle.pdb_module_data.specs.Procedures.{Procedure}
use Rattle.pdb_contributions.specs.Publics.{PublicFunction, joined}
use Rattle.pdb_contributions.proofs.Joined.{any_joined}
use Rattle.pdb_symbols_modules.specs.Modules.{Module}
use Rattle.pdb_answers.specs.KnownModules.{module_data, procedures_in}
use Rattle.pdb_frames.specs.Scopes.{Scope}
use Rattle.pdb_addr2line.specs.Starts.{if_any, address_of, addresses_of, public_starts, procedure_starts_from, is_among, AreSame, IsAscending}

-- ---- one address

-- a place without an address adds none
pub none_added : (numbers : List ℕ) (found : Option ℕ) → option_map image_address found ≡ None → numbers ++ if_any found ≡ numbers
none_added numbers None is = append-nil numbers
none_added numbers (Some n) is = absurd cc

-- a place with one adds it
pub one_added : (numbers : List ℕ) (found : Option ℕ) (address : Rva) → option_map image_address found ≡ Some address → numbers ++ if_any found ≡ numbers ++ address.0 ∷ []
one_added numbers None address is = absurd cc
one_added numbers (Some n) address is = let e : image_address n ≡ address = cc in ap (λ (a : Rva). numbers ++ a.0 ∷ []) e

-- ---- addresses of entries and procedures

-- the image addresses at which public entries begin
abbrev pub public_addresses : Map → List PublicFunction → List ℕ
public_addresses m publics = addresses_of m (map (λ f. f.start_offset) publics)

-- the image addresses at which procedures begin
abbrev pub procedure_addresses : Map → List Procedure → List ℕ
procedure_addresses m procedures = addresses_of m (map (λ q. q.offset) procedures)

-- no entry was gone over
pub publics_start : (m : Map) (numbers : List ℕ) (publics : List PublicFunction) → numbers ++ public_addresses m (drop 0 publics) ≡ numbers ++ public_addresses m publics
publics_start m numbers publics = refl

-- one more entry
pub publics_more : (m : Map) (numbers grown total : List ℕ) (publics : List PublicFunction) (index : ℕ) (d : PublicFunction) → index < length publics
    → grown ≡ numbers ++ if_any (outer_of_place m ((get_or publics index d).start_offset).section ((get_or publics index d).start_offset).offset)
    → numbers ++ public_addresses m (drop index publics) ≡ total → grown ++ public_addresses m (drop (index + 1) publics) ≡ total
publics_more m numbers grown total publics index d lt grows so_far =
    let place = (get_or publics index d).start_offset in
    ap (λ (g : List ℕ). g ++ public_addresses m (drop (index + 1) publics)) grows
    ∙ append_assoc numbers (if_any (outer_of_place m place.section place.offset)) (public_addresses m (drop (index + 1) publics))
    ∙ ap (λ (fs : List PublicFunction). numbers ++ public_addresses m fs) (sym (drop_more publics index d lt)) ∙ so_far

-- none is left
pub publics_end : (m : Map) (numbers total : List ℕ) (publics : List PublicFunction) (index : ℕ) → length publics ≤ index → numbers ++ public_addresses m (drop index publics) ≡ total → numbers ≡ total
publics_end m numbers total publics index past so_far =
    sym (append-nil numbers) ∙ ap (λ (fs : List PublicFunction). numbers ++ public_addresses m fs) (sym (drop_all index publics past)) ∙ so_far

-- no place was gone over
pub places_start : (m : Map) (numbers : List ℕ) (places : List PdbInternalSectionOffset) → numbers ++ addresses_of m (drop 0 places) ≡ numbers ++ addresses_of m places
places_start m numbers places = refl

-- one more place
pub places_more : (m : Map) (numbers grown total : List ℕ) (places : List PdbInternalSectionOffset) (index : ℕ) (d : PdbInternalSectionOffset) → index < length places
    → grown ≡ numbers ++ if_any (outer_of_place m (get_or places index d).section (get_or places index d).offset)
    → numbers ++ addresses_of m (drop index places) ≡ total → grown ++ addresses_of m (drop (index + 1) places) ≡ total
places_more m numbers grown total places index d lt grows so_far =
    let place = get_or places index d in
    ap (λ (g : List ℕ). g ++ addresses_of m (drop (index + 1) places)) grows
    ∙ append_assoc numbers (if_any (outer_of_place m place.section place.offset)) (addresses_of m (drop (index + 1) places))
    ∙ ap (λ (ps : List PdbInternalSectionOffset). numbers ++ addresses_of m ps) (sym (drop_more places index d lt)) ∙ so_far

-- none is left
pub places_end : (m : Map) (numbers total : List ℕ) (places : List PdbInternalSectionOffset) (index : ℕ) → length places ≤ index → numbers ++ addresses_of m (drop index places) ≡ total → numbers ≡ total
places_end m numbers total places index past so_far =
    sym (append-nil numbers) ∙ ap (λ (ps : List PdbInternalSectionOffset). numbers ++ addresses_of m ps) (sym (drop_all index places past)) ∙ so_far

-- no procedure was gone over
pub procedures_start : (m : Map) (numbers : List ℕ) (procedures : List Procedure) → numbers ++ procedure_addresses m (drop 0 procedures) ≡ numbers ++ procedure_addresses m procedures
procedures_start m numbers procedures = refl

-- one more procedure
pub procedures_more : (m : Map) (numbers grown total : List ℕ) (procedures : List Procedure) (index : ℕ) (d : Procedure) → index < length procedures
    → grown ≡ numbers ++ if_any (outer_of_place m ((get_or procedures index d).offset).section ((get_or procedures index d).offset).offset)
    → numbers ++ procedure_addresses m (drop index procedures) ≡ total → grown ++ procedure_addresses m (drop (index + 1) procedures) ≡ total
procedures_more m numbers grown total procedures index d lt grows so_far =
    let place = (get_or procedures index d).offset in
    ap (λ (g : List ℕ). g ++ procedure_addresses m (drop (index + 1) procedures)) grows
    ∙ append_assoc numbers (if_any (outer_of_place m place.section place.offset)) (procedure_addresses m (drop (index + 1) procedures))
    ∙ ap (λ (qs : List Procedure). numbers ++ procedure_addresses m qs) (sym (drop_more procedures index d lt)) ∙ so_far

-- none is left
pub procedures_end : (m : Map) (numbers total : List ℕ) (procedures : List Procedure) (index : ℕ) → length procedures ≤ index → numbers ++ procedure_addresses m (drop index procedures) ≡ total → numbers ≡ total
procedures_end m numbers total procedures index past so_far =
    sym (append-nil numbers) ∙ ap (λ (qs : List Procedure). numbers ++ procedure_addresses m qs) (sym (drop_all index procedures past)) ∙ so_far

-- ---- addresses of modules

-- the image addresses at which the procedures of a module begin
abbrev pub module_addresses : Map → Scope → List ℕ
module_addresses m scope = procedure_addresses m (procedures_in (module_data scope.own))

-- the image addresses at which the procedures of modules begin, from the module with that index on
abbrev pub addresses_from : Map → (ℕ → Scope) → ℕ → List Module → List ℕ
addresses_from m scope number entries = addresses_of m (procedure_starts_from scope number entries)

-- no module was gone over
pub modules_start : (m : Map) (scope : ℕ → Scope) (numbers : List ℕ) (entries : List Module) → numbers ++ addresses_from m scope 0 (drop 0 entries) ≡ numbers ++ addresses_from m scope 0 entries
modules_start m scope numbers entries = refl

first_module : (m : Map) (scope : ℕ → Scope) (number : ℕ) (entry : Module) (entries : List Module) → addresses_from m scope number (entry ∷ entries) ≡ module_addresses m (scope number) ++ addresses_from m scope (number + 1) entries
first_module m scope number entry entries =
    flat_map-append (λ (p : PdbInternalSectionOffset). if_any (outer_of_place m p.section p.offset)) (map (λ (q : Procedure). q.offset) (procedures_in (module_data (scope number).own))) (procedure_starts_from scope (number + 1) entries)

split_module : (m : Map) (scope : ℕ → Scope) (entries : List Module) (number : ℕ) → number < length entries → addresses_from m scope number (drop number entries) ≡ module_addresses m (scope number) ++ addresses_from m scope (number + 1) (drop (number + 1) entries)
split_module m scope [] number lt = absurd (omega arith)
split_module m scope (entry ∷ entries) number lt =
    ap (addresses_from m scope number) (drop_more (entry ∷ entries) number entry lt) ∙ first_module m scope number (get_or (entry ∷ entries) number entry) (drop (number + 1) (entry ∷ entries))

-- one more module
pub modules_more : (m : Map) (scope : ℕ → Scope) (numbers grown total : List ℕ) (entries : List Module) (number : ℕ) → number < length entries → grown ≡ numbers ++ module_addresses m (scope number)
    → numbers ++ addresses_from m scope number (drop number entries) ≡ total → grown ++ addresses_from m scope (number + 1) (drop (number + 1) entries) ≡ total
modules_more m scope numbers grown total entries number lt grows so_far =
    ap (λ (g : List ℕ). g ++ addresses_from m scope (number + 1) (drop (number + 1) entries)) grows
    ∙ append_assoc numbers (module_addresses m (scope number)) (addresses_from m scope (number + 1) (drop (number + 1) entries))
    ∙ ap (λ (more : List ℕ). numbers ++ more) (sym (split_module m scope entries number lt)) ∙ so_far

-- none is left
pub modules_end : (m : Map) (scope : ℕ → Scope) (numbers total : List ℕ) (entries : List Module) (number : ℕ) → length entries ≤ number → numbers ++ addresses_from m scope number (drop number entries) ≡ total → numbers ≡ total
modules_end m scope numbers total entries number past so_far =
    sym (append-nil numbers) ∙ ap (λ (es : List Module). numbers ++ addresses_from m scope number es) (sym (drop_all number entries past)) ∙ so_far

-- ---- numbers among others

either : (a b c : Bool) → ((a || b) || c) ≡ (a || (b || c))
either true b c = refl
either false b c = refl

among_both : (xs ys : List ℕ) (n : ℕ) → is_among (xs ++ ys) n ≡ (is_among xs n || is_among ys n)
among_both [] ys n = refl
among_both (x ∷ xs) ys n = ap (λ b. (x == n) || b) (among_both xs ys n) ∙ sym (either (x == n) (is_among xs n) (is_among ys n))

-- the address of a place is a number
abbrev has_address : Map → ℕ → PdbInternalSectionOffset → Bool
has_address m n p = is_among (address_of m p) n

among_addresses : (m : Map) (n : ℕ) (places : List PdbInternalSectionOffset) → is_among (addresses_of m places) n ≡ list_any (has_address m n) places
among_addresses m n [] = refl
among_addresses m n (p ∷ places) = among_both (address_of m p) (addresses_of m places) n ∙ ap (λ b. has_address m n p || b) (among_addresses m n places)

-- the addresses of functions and of places are those of the public list that they are
pub publics_joined : (m : Map) (list functions : List PublicFunction) (places : List PdbInternalSectionOffset) (one two : List ℕ) → list ≡ joined functions places
    → one ≡ [] ++ addresses_of m (public_starts functions) → two ≡ one ++ addresses_of m places → AreSame (addresses_of m (public_starts list)) two
publics_joined m list functions places one two is first second n =
    ap (λ (xs : List ℕ). is_among xs n) (second ∙ ap (λ (xs : List ℕ). xs ++ addresses_of m places) first)
    ∙ among_both (addresses_of m (public_starts functions)) (addresses_of m places) n
    ∙ ap (λ b. b || is_among (addresses_of m places) n) (among_addresses m n (public_starts functions))
    ∙ ap (λ b. list_any (has_address m n) (public_starts functions) || b) (among_addresses m n places)
    ∙ sym (any_joined (has_address m n) functions places)
    ∙ sym (among_addresses m n (public_starts (joined functions places)))
    ∙ ap (λ (fs : List PublicFunction). is_among (addresses_of m (public_starts fs)) n) (sym is)

-- in ascending order, numbers and others are what the same numbers and the others are
pub ascending_both : (numbers same both others ascending : List ℕ) → AreSame numbers same → both ≡ same ++ others → IsAscending both ascending → IsAscending (numbers ++ others) ascending
ascending_both numbers same both others ascending are is up = record {
  rising = up.rising;
  same = λ n. up.same n ∙ ap (λ (xs : List ℕ). is_among xs n) is ∙ among_both same others n
      ∙ ap (λ b. b || is_among others n) (are n) ∙ sym (among_both numbers others n);
}

-- ---- in order, each once

twice : (a b : Bool) → (a || (a || b)) ≡ (a || b)
twice true b = refl
twice false b = refl

same_number : (x k : ℕ) → eqb x k ≡ true → x ≡ k
same_number x k h = grind (arith, nat_tests)

among_from : (k : ℕ) (xs : List ℕ) (n : ℕ) → is_among (dedup_from eqb k xs) n ≡ ((k == n) || is_among xs n)
among_from k [] n = refl
among_from k (x ∷ xs) n = elim (cases_Bool (eqb x k)) [
  | inl h ↦ rw h (among_from k xs n ∙ sym (twice (k == n) (is_among xs n)) ∙ ap (λ (j : ℕ). (k == n) || ((j == n) || is_among xs n)) (sym (same_number x k h)))
  | inr h ↦ rw h (ap (λ b. (k == n) || b) (among_from x xs n))
]

among_dedup : (xs : List ℕ) (n : ℕ) → is_among (dedup eqb xs) n ≡ is_among xs n
among_dedup [] n = refl
among_dedup (x ∷ xs) n = among_from x xs n

-- a list in order without what repeats the one before it
pub ascending : (xs ys zs : List ℕ) → IsPermutation xs ys → IsSorted nat_cmp ys → zs ≡ dedup eqb ys → IsAscending xs zs
ascending xs ys zs moved in_order is = record {
  rising = rw is (sorted_from_strictly_increasing (dedup eqb ys) (IsStrictlyIncreasing-dedup ys in_order));
  same = λ n. rw is (among_dedup ys n ∙ sym (list_any-IsPermutation (λ m. m == n) xs ys moved));
}
