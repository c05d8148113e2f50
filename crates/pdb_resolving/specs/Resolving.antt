-- Indices that lead into another module, and the indices in the tables for which they stand.
use Rattle.std.specs.Prelude.{ℕ, ◌+◌, Bool, List, [], ◌∷◌, Option, None, Some, Result, Ok, Err}
use Rattle.std.specs.Prelude.{slice_get, if◌then◌else◌}
use Rattle.std.specs.Option.{ok_or}
use Rattle.std.specs.Str.{str_eq_ignore_ascii_case, str_to_ascii_lowercase}
use Rattle.std.specs.Str.Lossy.{utf8_lossy}
use Rattle.pdb_container.specs.Fault as container_fault
use Rattle.pdb_container.specs.Fault.{◌>>=◌}
use Rattle.pdb_container.specs.StringTable.{text_in}
use Rattle.pdb_container.specs.Index.{is_cross_module}
use Rattle.pdb_subsections.specs.Exports.{Entry, first_export}
use Rattle.pdb_subsections.specs.Imports.{Import, imported}
use Rattle.pdb_resolving.specs.Failed.{stands, with_part}
use Rattle.pdb_symbols_modules.specs.ModuleStream.{ModuleStream, imports_in, exports_in}
use Rattle.pdb_symbols_modules.specs.Modules.{Module}
use Rattle.pdb_resolving.specs.declared.table.Table.{Table}
use Rattle.pdb_resolving.specs.declared.table.Table.TheVariants as tables
use Rattle.pdb_resolving.specs.Cause.{Cause, ByFault, of_no_table, of_table}
use Rattle.pdb_resolving.specs.Fault.{Fault, ModuleImportsUnsuccessful, ModuleExportsUnsuccessful}
use Rattle.pdb_resolving.specs.Fault.{CantResolveCrossModuleRefWithoutStringTable}
use Rattle.pdb_resolving.specs.Fault.{ModuleNameNotFound, LocalIndexNotInExports}
use Rattle.pdb_resolving.specs.Fault.{OutOfRangeModuleIndex, ModuleInfoNotFound, lifted}

-- a provider's answers: by a module's index and entry the content of its own stream, if it has one,
-- or the fault
abbrev pub Provided : Type 0
Provided = ℕ → Module → Result (Option ModuleStream) container_fault.Fault

-- the tables of imports and of exports that stand as failed, each by its module's index
pub record FailedTables : Type 0 where
  pub imports : List ℕ
  pub exports : List ℕ

-- no table has failed
abbrev pub none_failed : FailedTables
none_failed = record { imports = []; exports = [] }

-- the modules of a database: their entries in order, the provider's answers, the names by which
-- they refer to one another, and those of their tables that stand as failed
pub record Modules : Type 0 where
  pub entries : List Module
  pub provided : Provided
  pub names : Option (List ℕ)
  pub failed : FailedTables

-- ---- names of modules

-- whether a module has a name, without regard to ASCII case
abbrev pub is_named : List ℕ → Module → Bool
is_named name m = str_eq_ignore_ascii_case (utf8_lossy m.module_name) name

-- the place after one more element, of which is known whether it is the one that is looked for, if
-- no such element is after it
abbrev pub place_from : Bool → Option ℕ → Option ℕ
place_from here (Some n) = Some (n + 1)
place_from here None = if here then Some 0 else None

-- the place of the last element that is looked for, counted from 0
unfoldable pub last_place : {A : Type 0} → (A → Bool) → List A → Option ℕ
last_place test [] = None
last_place test (x ∷ xs) = place_from (test x) (last_place test xs)

-- the index of the last module with that name
abbrev pub last_named : List ℕ → List Module → Option ℕ
last_named name entries = last_place (is_named name) entries

-- ---- indices

-- the content of the module with that index
unfoldable pub module_numbered : Provided → List Module → ℕ → Result ModuleStream Fault
module_numbered provided entries number = do
  entry ← ok_or (slice_get entries number) (OutOfRangeModuleIndex number)
  stream ← lifted (provided number entry)
  ok_or stream (ModuleInfoNotFound number)

-- the imports of the module with that index, from its stream
unfoldable pub imports_read : Provided → List Module → ℕ → Result (List Import) Fault
imports_read provided entries number = do
  own ← module_numbered provided entries number
  lifted (imports_in own)

-- the exports of the module with that index, from its stream
unfoldable pub exports_read : Provided → List Module → ℕ → Result (List Entry) Fault
exports_read provided entries number = do
  own ← module_numbered provided entries number
  lifted (exports_in own)

-- the imports of the module with that index, unless they stand as failed
abbrev pub imports_of : Modules → ℕ → Result (List Import) Cause
imports_of modules number =
    if stands modules.failed.imports number
    then Err (ByFault ModuleImportsUnsuccessful)
    else of_table (tables.Imports number) (imports_read modules.provided modules.entries number)

-- the exports of the module with that index, unless they stand as failed
abbrev pub exports_of : Modules → ℕ → Result (List Entry) Cause
exports_of modules number =
    if stands modules.failed.exports number
    then Err (ByFault ModuleExportsUnsuccessful)
    else of_table (tables.Exports number) (exports_read modules.provided modules.entries number)

-- the index in the database's table that a module exports first under an index as it names it
abbrev pub exported : List Entry → ℕ → Result ℕ Fault
exported exports local = ok_or (first_export exports local) (LocalIndexNotInExports local)

-- The index for which an index of the asking module stands that leads into another one: the other
-- module's first export of the import. The other module is the last one of the imported name.
unfoldable pub resolved_elsewhere : Modules → ℕ → ℕ → Result ℕ Cause
resolved_elsewhere modules asking index = do
  names ← of_no_table (ok_or modules.names CantResolveCrossModuleRefWithoutStringTable)
  imports ← imports_of modules asking
  target ← of_no_table (lifted (imported imports index))
  name ← of_no_table (lifted (text_in names target.name))
  number ← of_no_table
      (ok_or (last_named name modules.entries) (ModuleNameNotFound (str_to_ascii_lowercase name)))
  exports ← exports_of modules number
  of_no_table (exported exports target.local)

-- the index for which an index stands as a module has it: without bit 31 itself
abbrev pub resolve : Modules → ℕ → ℕ → Result ℕ Cause
resolve modules asking index =
    if is_cross_module index then resolved_elsewhere modules asking index else Ok index

-- ---- modules as they are stored

-- the values by which indices are resolved: the provider, the modules' entries, the names, and the
-- tables that stand as failed
pub record Kept (P : Type 0) : Type 0 where
  pub provider : P
  pub entries : List Module
  pub names : Option (List ℕ)
  pub failed : FailedTables

-- these values, where no table stands as failed
abbrev pub none_failed_of : {P : Type 0} → P → List Module → Option (List ℕ) → Kept P
none_failed_of provider entries names = record {
  provider = provider;
  entries = entries;
  names = names;
  failed = none_failed;
}

-- the modules of these values, with the provider's answers

abbrev pub modules_by : {P : Type 0} → (P → Provided) → Kept P → Modules
modules_by provided kept = record {
  entries = kept.entries;
  provided = provided kept.provider;
  names = kept.names;
  failed = kept.failed;
}

-- ---- tables that fail

-- the tables that stand as failed, with one more
abbrev pub with_table : FailedTables → Table → FailedTables
with_table failed (tables.Imports number) =
    record failed { imports = with_part failed.imports number }
with_table failed (tables.Exports number) =
    record failed { exports = with_part failed.exports number }

-- the values by which indices are resolved, with one more table that stands as failed
abbrev pub with_failed : {P : Type 0} → Kept P → Table → Kept P
with_failed kept table = record kept { failed = with_table kept.failed table }
