-- The modules that a module's import table names.
use Rattle.std.specs.Prelude.{◌≡◌, ℕ, List, Some, Ok}
use Rattle.std.specs.List.{Contains}
use Rattle.pdb_container.specs.StringTable.{text_in}
use Rattle.pdb_subsections.specs.Imports.{Import}
use Rattle.pdb_resolving.specs.Resolving.{Modules, imports_of, last_named}

-- A name in the import table of the asking module reaches a module: the last one of that name.
pub record Reaches (modules : Modules) (asking target : ℕ) : Type 0 where
  pub names : List ℕ
  pub imports : List Import
  pub import : Import
  pub name : List ℕ
  pub names_are : modules.names ≡ Some names
  pub imports_are : imports_of modules asking ≡ Ok imports
  pub imported : Contains imports import
  pub name_is : text_in names import.name ≡ Ok name
  pub target_is : last_named name modules.entries ≡ Some target
