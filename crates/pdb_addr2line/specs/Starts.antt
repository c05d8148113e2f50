-- The starts of functions: the image addresses of public entries and of all modules' procedures.
use Rattle.std.specs.Prelude.{◌≡◌, ℕ, ◌+◌, ◌==◌, Bool, List, [], ◌∷◌, ◌++◌, map, Option, None, Some}
use Rattle.std.specs.Prelude.{Result, OnOk, option_map}
use Rattle.std.specs.Global.{Vec}
use Rattle.std.specs.List.{flat_map, list_any}
use Rattle.std.specs.List.Sorted.{IsStrictlySortedBy}
use Rattle.std.specs.Ordering.{nat_cmp}
use Rattle.pdb_addresses.specs.declared.internal_section_offset.PdbInternalSectionOffset.{
  PdbInternalSectionOffset,
}
use Rattle.pdb_addresses.specs.Addresses.{Map, outer_of_place}
use Rattle.pdb_contributions.specs.Publics.{PublicFunction}
use Rattle.pdb_module_data.specs.Procedures.{Procedure}
use Rattle.pdb_symbols_modules.specs.Modules.{Module}
use Rattle.pdb_answers.specs.KnownModules.{module_data, procedures_in}
use Rattle.pdb_answers.specs.Choice.{Parts}
use Rattle.pdb_answers.specs.Printing.{Formatting}
use Rattle.pdb_frames.specs.Scopes.{Scope, entries_of, scope_of}
use Rattle.pdb_resolving.specs.Resolving.{Provided}

-- a value that may be there, as a list
abbrev pub if_any : {A : Type 0} → Option A → List A
if_any None = []
if_any (Some x) = x ∷ []

-- the image address of a place, if it has one, as a list
abbrev pub address_of : Map → PdbInternalSectionOffset → List ℕ
address_of map p = if_any (outer_of_place map p.section p.offset)

-- the image addresses of those places that have one
abbrev pub addresses_of : Map → List PdbInternalSectionOffset → List ℕ
addresses_of map places = flat_map (λ p. address_of map p) places

-- the starts of public entries
abbrev pub public_starts : List PublicFunction → List PdbInternalSectionOffset
public_starts publics = map (λ f. f.start_offset) publics

-- the starts of procedures
abbrev pub starts_of : List Procedure → List PdbInternalSectionOffset
starts_of procedures = map (λ q. q.offset) procedures

-- the starts of the procedures of modules, from the module with that index on
abbrev pub procedure_starts_from : (ℕ → Scope) → ℕ → List Module → List PdbInternalSectionOffset
procedure_starts_from scope number [] = []
procedure_starts_from scope number (entry ∷ entries) =
    starts_of (procedures_in (module_data (scope number).own))
    ++ procedure_starts_from scope (number + 1) entries

-- the starts of public entries and procedures, as image addresses
abbrev pub start_addresses : Parts → (ℕ → Scope) → List Module → List ℕ
start_addresses p scope entries =
    addresses_of p.map (public_starts p.publics)
    ++ addresses_of p.map (procedure_starts_from scope 0 entries)

-- the starts of the procedures of a module
abbrev pub procedure_starts : Scope → List PdbInternalSectionOffset
procedure_starts scope = starts_of (procedures_in (module_data scope.own))

-- the same from the provider of modules and a formatter: of the module with that index
abbrev pub module_starts : {P : Type 0} → (P → Provided) → P → Formatting P → ℕ
    → List PdbInternalSectionOffset
module_starts provided provider formatting m =
    procedure_starts (scope_of provided provider formatting m)

-- and of all modules
abbrev pub all_starts : {P : Type 0} → (P → Provided) → P → Formatting P
    → List PdbInternalSectionOffset
all_starts provided provider formatting =
    procedure_starts_from (scope_of provided provider formatting) 0 (entries_of formatting)

-- the image addresses from the provider of modules and a formatter
abbrev pub starts_given : {P : Type 0} → (P → Provided) → P → Parts → Formatting P → List ℕ
starts_given provided provider parts formatting =
    start_addresses parts (scope_of provided provider formatting) (entries_of formatting)

-- a call appends the image addresses of places
abbrev pub AppendsAddresses : {A E : Type 0} → Result A E → Map → List ℕ → List ℕ
    → List PdbInternalSectionOffset → Type 0
AppendsAddresses result map before after places =
    OnOk result (after ≡ before ++ addresses_of map places)

-- the same of a vector
abbrev pub Appends : {A E : Type 0} → Result A E → Map → Vec ℕ → Vec ℕ
    → List PdbInternalSectionOffset → Type 0
Appends result map before after places =
    AppendsAddresses result map before.items after.items places

-- a number is among others
abbrev pub is_among : List ℕ → ℕ → Bool
is_among numbers n = list_any (λ m. m == n) numbers

-- the same numbers, in any order and each any number of times
abbrev pub AreSame : List ℕ → List ℕ → Type 0
AreSame numbers others = (n : ℕ) → is_among others n ≡ is_among numbers n

-- the same numbers in ascending order, each once
pub record IsAscending (numbers ascending : List ℕ) : Type 0 where
  pub rising : IsStrictlySortedBy nat_cmp ascending
  pub same : AreSame numbers ascending

-- the numbers that are cached, if some are, are the same in ascending order, each once
abbrev pub AreStarts : List ℕ → Option (List ℕ) → Type 0
AreStarts numbers None = Unit {0}
AreStarts numbers (Some starts) = IsAscending numbers starts

-- the same of a vector
abbrev pub AreKeptStarts : List ℕ → Option (Vec ℕ) → Type 0
AreKeptStarts numbers kept = AreStarts numbers (option_map (λ v. v.items) kept)
