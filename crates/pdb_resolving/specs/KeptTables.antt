-- The cache of the modules among which indices are resolved: the tables that were read, and the
-- indices of modules by their names.
use Rattle.std.specs.Prelude.{◌≡◌, ℕ, ◌≤◌, List, Some, Result, Ok, Err, IfErr, String}
use Rattle.std.specs.Prelude.{string_bytes}
use Rattle.std.specs.declared.alloc.Global.{Global}
use Rattle.std.specs.BTreeMap.{BTreeMap, get, get_by_text}
use Rattle.std.specs.Option.{ok_or}
use Rattle.std.specs.Ordering.{nat_cmp}
use Rattle.std.specs.Str.{str_to_ascii_lowercase}
use Rattle.pdb_container.specs.Fault.{◌>>=◌, UnexpectedEof}
use Rattle.pdb_container.specs.StringTable.{text_in}
use Rattle.pdb_subsections.specs.declared.exports.CrossModuleExport.{CrossModuleExport}
use Rattle.pdb_subsections.specs.declared.exports.CrossModuleExport.TheVariants as forms
use Rattle.pdb_subsections.specs.Exports.{Entry, first_export}
use Rattle.pdb_subsections.specs.Imports.{Imported, imported}
use Rattle.pdb_symbols_modules.specs.Modules.{Module}
use Rattle.pdb_resolving.specs.declared.module_names.ModuleNames.{ModuleNames}
use Rattle.pdb_resolving.specs.declared.named_modules.MissingName.{MissingName}
use Rattle.pdb_resolving.specs.declared.named_modules.NamedModules.{NamedModules}
use Rattle.pdb_resolving.specs.Cause.{Cause, of_no_table}
use Rattle.pdb_resolving.specs.Fault.{Fault, CantResolveCrossModuleRefWithoutStringTable}
use Rattle.pdb_resolving.specs.Fault.{ModuleNameNotFound, PdbError, Fails, lifted}
use Rattle.pdb_resolving.specs.declared.error.Error.{Error}
use Rattle.pdb_resolving.specs.Resolving.{Modules, last_named, imports_of, exports_of, exported}

-- Each cached table is what reading gives of its module.
pub record AreRead {T : Type 0} (read : ℕ → Result T Fault) (tables : BTreeMap ℕ T) : Type 0 where
  pub each : (number : ℕ) (table : T) → get nat_cmp tables number ≡ Some table
      → read number ≡ Ok table

-- the entry of an export: its index as the module names it, and its index in the table of types or
-- of ids
abbrev pub entry_of : CrossModuleExport → Entry
entry_of (forms.OfType local global) = record { local = local.0.0; global = global.0 }
entry_of (forms.Id local global) = record { local = local.0.0; global = global.0 }

-- Under each index as the module names it stands the index that the first of these exports of it
-- gives.
pub record AreFirst (exports : List Entry) (firsts : BTreeMap ℕ ℕ) : Type 0 where
  pub each : (local : ℕ) → get nat_cmp firsts local ≡ first_export exports local

-- Each name in ASCII lower case has the index of the last module with that name.
pub record AreLast (entries : List Module) (numbers : BTreeMap (String Global) ℕ) : Type 0 where
  pub each : (name : List ℕ)
      → get_by_text numbers (str_to_ascii_lowercase name) ≡ last_named name entries

-- The indices of modules that are cached by their names, if any are, are those of the last module
-- with each name.
pub record AreNames (entries : List Module) (names : ModuleNames) : Type 0 where
  pub each : (numbers : BTreeMap (String Global) ℕ) → names.numbers ≡ Some numbers
      → AreLast entries numbers

-- ---- an index that leads into another module, in the steps that are gone

-- the import of a module under an index
abbrev pub import_of : Modules → ℕ → ℕ → Result Imported Cause
import_of modules asking index = do
  imports ← imports_of modules asking
  of_no_table (lifted (imported imports index))

-- the index of the last module with that name
abbrev pub numbered : List ℕ → List Module → Result ℕ Fault
numbered name entries =
    ok_or (last_named name entries) (ModuleNameNotFound (str_to_ascii_lowercase name))

-- the index of the last module with the name at a place among the names
abbrev pub named_at : List ℕ → List Module → ℕ → Result ℕ Fault
named_at names entries place = lifted (text_in names place) >>= λ name. numbered name entries

-- The values stored by the places of names are right: a module's number; a place from which on no
-- name ends; a name that no module has.
pub record AreNamed (names : List ℕ) (entries : List Module) (named : NamedModules) : Type 0 where
  pub number : (place n : ℕ) → get nat_cmp named.numbers place ≡ Some n
      → named_at names entries place ≡ Ok n
  pub unended : (first place : ℕ) → named.unended ≡ Some first → first ≤ place
      → named_at names entries place ≡ Err (PdbError UnexpectedEof)
  pub missing : (m : MissingName) → named.missing ≡ Some m
      → named_at names entries m.place ≡ Err (ModuleNameNotFound (string_bytes m.name))

-- a place is refused only by its fault, where the values stored of names and modules are right
abbrev pub RefusesAt : {X : Type 0} → NamedModules → ℕ → Result X Error → Type 0
RefusesAt named place result =
    (names : List ℕ) (entries : List Module) → AreNamed names entries named
    → IfErr result (λ e. Fails e (named_at names entries place))

-- the values stored of names and modules stay right once a place's fault was stored
abbrev pub StayNamed : NamedModules → NamedModules → ℕ → Error → Type 0
StayNamed old new place e =
    (names : List ℕ) (entries : List Module) → AreNamed names entries old
    → Fails e (named_at names entries place) → AreNamed names entries new

-- the first export of a module under an index as it names it
abbrev pub export_of : Modules → ℕ → ℕ → Result ℕ Cause
export_of modules number local = do
  exports ← exports_of modules number
  of_no_table (exported exports local)

-- the index for which an index that leads into another module stands, by these steps
unfoldable pub resolved_by_steps : Modules → ℕ → ℕ → Result ℕ Cause
resolved_by_steps modules asking index = do
  names ← of_no_table (ok_or modules.names CantResolveCrossModuleRefWithoutStringTable)
  target ← import_of modules asking index
  number ← of_no_table (named_at names modules.entries target.name)
  export_of modules number target.local
