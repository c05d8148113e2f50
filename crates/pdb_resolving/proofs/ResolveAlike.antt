-- What an index means depends on the asking module, and on those that its import table reaches.
use Rattle.std.proofs.Common.{◌≡◌, ℕ, List, Result, Ok, Err, refl, sym, ap, ◌∙◌, subst}
use Rattle.std.specs.List.{Contains}
use Rattle.std.specs.Option.{ok_or}
use Rattle.std.specs.Prelude.{Option, None, Some, slice_get, option_map, option_and_then}
use Rattle.std.specs.Str.{str_to_ascii_lowercase}
use Rattle.std.proofs.lemmas.List.Elements.{Contains-get_or}
use Rattle.std.proofs.lemmas.Option.{slice_get_within, get_or_from_slice_get}
use mathlib.Core.Path.{fun_ext}
use Rattle.pdb_container.specs.Fault as container
use Rattle.pdb_container.specs.Fault.{NotACrossModuleRef, CrossModuleRefNotFound, ◌>>=◌, guard}
use Rattle.pdb_container.specs.StringTable.{text_in}
use Rattle.pdb_subsections.specs.Imports.{Import, Imported, imported, imported_from, found_import, module_of, entry_of}
use Rattle.pdb_container.specs.Index.{is_cross_module}
use Rattle.pdb_resolving.specs.Cause.{of_no_table}
use Rattle.pdb_resolving.specs.Fault.{Fault, CantResolveCrossModuleRefWithoutStringTable, ModuleNameNotFound, lifted}
use Rattle.pdb_resolving.specs.Reaches.{Reaches}
use Rattle.pdb_resolving.specs.Resolving.{Provided, Modules, imports_of, exports_of, module_numbered, imports_read, exports_read, last_named, resolve, resolved_elsewhere}
use Rattle.pdb_symbols_modules.specs.Modules.{Module}

-- ---- readings in a chain

pub bind_alike : {F A B : Type 0} (r : Result A F) (f g : A → Result B F) → ((x : A) → r ≡ Ok x → f x ≡ g x) → (r >>= f) ≡ (r >>= g)
bind_alike (Ok x) f g h = h x refl
bind_alike (Err e) f g h = refl

pub bind_cases : {F A B C : Type 0} (r : Result A F) (f : A → Result B F) {y : B} → (r >>= f) ≡ Ok y → ((x : A) → r ≡ Ok x → f x ≡ Ok y → C) → C
bind_cases (Ok x) f e then_ = then_ x refl e
bind_cases (Err d) f e then_ = absurd cc

-- the value of one that is there, and of what was lifted
there : {A F : Type 0} (o : Option A) (f : F) (x : A) → ok_or o f ≡ Ok x → o ≡ Some x
there None f x e = absurd cc
there (Some y) f x e = cc

as_read : {A : Type 0} (r : Result A container.Fault) (x : A) → lifted r ≡ Ok x → r ≡ Ok x
as_read (Ok y) x e = cc
as_read (Err f) x e = absurd cc

-- the value of what was read of no table
of_none : {A : Type 0} (r : Result A Fault) (x : A) → of_no_table r ≡ Ok x → r ≡ Ok x
of_none (Ok y) x e = cc
of_none (Err f) x e = absurd cc

-- ---- what is given of a module

numbered_alike : (f g : Provided) (entries : List Module) (k : ℕ) → f k ≡ g k → module_numbered f entries k ≡ module_numbered g entries k
unfolding module_numbered
numbered_alike f g entries k same = rw same refl

imports_alike : (f g : Provided) (entries : List Module) (k : ℕ) → f k ≡ g k → imports_read f entries k ≡ imports_read g entries k
unfolding imports_read
imports_alike f g entries k same = rw (numbered_alike f g entries k same) refl

exports_alike : (f g : Provided) (entries : List Module) (k : ℕ) → f k ≡ g k → exports_read f entries k ≡ exports_read g entries k
unfolding exports_read
exports_alike f g entries k same = rw (numbered_alike f g entries k same) refl

-- the same modules, by what gives them
abbrev pub given_by : Provided → Modules → Modules
given_by f modules = record modules { provided = f }

imports_same : (modules : Modules) (g : Provided) (k : ℕ) → modules.provided k ≡ g k → imports_of modules k ≡ imports_of (given_by g modules) k
imports_same modules g k same = rw (imports_alike modules.provided g modules.entries k same) refl

exports_same : (modules : Modules) (g : Provided) (k : ℕ) → modules.provided k ≡ g k → exports_of modules k ≡ exports_of (given_by g modules) k
exports_same modules g k same = rw (exports_alike modules.provided g modules.entries k same) refl

-- ---- where an index leads

listed : (imports : List Import) (i : ℕ) (import : Import) → slice_get imports i ≡ Some import → Contains imports import
listed imports i import e =
    subst (Contains imports) (get_or_from_slice_get imports i import import e) (Contains-get_or imports i import (slice_get_within imports i import e))

name_of : (import : Import) (o : Option ℕ) (t : Imported) → option_map (λ local. record { name = import.name; local = local }) o ≡ Some t → import.name ≡ t.name
name_of import None t e = absurd cc
name_of import (Some local) t e = cc

in_entry : (i : ℕ) (o : Option Import) (t : Imported) → option_and_then (λ m. imported_from m (entry_of i)) o ≡ Some t → (import : Import) × (o ≡ Some import) × (import.name ≡ t.name)
in_entry i None t e = absurd cc
in_entry i (Some import) t e = (import, refl, name_of import (slice_get import.locals (entry_of i)) t e)

-- what an index stands for has the name of an import of the table
import_of : (imports : List Import) (i : ℕ) (t : Imported) → imported imports i ≡ Ok t → (import : Import) × Contains imports import × (import.name ≡ t.name)
import_of imports i t e = bind_cases (guard (is_cross_module i) (NotACrossModuleRef i)) _ e λ _ _ e.
    let found = in_entry i (slice_get imports (module_of i)) t (there (found_import imports i) (CrossModuleRefNotFound i) t e) in
    (found.0, listed imports (module_of i) found.0 found.1, found.2)

-- What is given of the module itself and of those that its import table reaches is the same.
pub record GivenAlike (modules : Modules) (g : Provided) (asking : ℕ) : Type 0 where
  pub itself : modules.provided asking ≡ g asking
  pub reached : (k : ℕ) → Reaches modules asking k → modules.provided k ≡ g k

elsewhere_alike : (modules : Modules) (g : Provided) (m i : ℕ) → GivenAlike modules g m → resolved_elsewhere modules m i ≡ resolved_elsewhere (given_by g modules) m i
unfolding resolved_elsewhere
elsewhere_alike modules g m i alike = rw (sym (imports_same modules g m alike.itself)) (
    bind_alike (of_no_table (ok_or modules.names CantResolveCrossModuleRefWithoutStringTable)) _ _ λ names names_are.
    bind_alike (imports_of modules m) _ _ λ imports imports_are.
    bind_alike (of_no_table (lifted (imported imports i))) _ _ λ target target_is.
    let found = import_of imports i target (as_read (imported imports i) target (of_none (lifted (imported imports i)) target target_is)) in
    bind_alike (of_no_table (lifted (text_in names target.name))) _ _ λ name name_is.
    bind_alike (of_no_table (ok_or (last_named name modules.entries) (ModuleNameNotFound (str_to_ascii_lowercase name)))) _ _ λ k k_is.
    rw (exports_same modules g k (alike.reached k (record {
      names = names;
      imports = imports;
      import = found.0;
      name = name;
      names_are = there modules.names CantResolveCrossModuleRefWithoutStringTable names (of_none (ok_or modules.names CantResolveCrossModuleRefWithoutStringTable) names names_are);
      imports_are = imports_are;
      imported = found.1;
      name_is = ap (text_in names) found.2 ∙ as_read (text_in names target.name) name (of_none (lifted (text_in names target.name)) name name_is);
      target_is = there (last_named name modules.entries) (ModuleNameNotFound (str_to_ascii_lowercase name)) k (of_none (ok_or (last_named name modules.entries) (ModuleNameNotFound (str_to_ascii_lowercase name))) k k_is);
    }))) refl)

-- an index means the same
pub resolve_alike : (modules : Modules) (g : Provided) (m : ℕ) → GivenAlike modules g m → resolve modules m ≡ resolve (given_by g modules) m
resolve_alike modules g m alike = fun_ext λ i. rw (elsewhere_alike modules g m i alike) refl
