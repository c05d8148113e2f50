-- A database that is held, and that it is the file's.
use Rattle.std.specs.Prelude.{◌≡◌, ℕ, List, length, Option, map, Result}
use Rattle.pdb_loading.specs.ModuleInfos.{KeptInfo, kept_info, answered, answered_at, if_read}
use Rattle.pdb_loading.specs.ModuleInfos.{AnswersSourceFault, KeepsAt, KeepsNames}
use Rattle.pdb_loading.specs.Loading.{Tables, DatabaseRead}
use Rattle.pdb_loading.specs.Orders.{parts_with}
use Rattle.pdb_loading.specs.declared.order.ContributionOrder.{ContributionOrder}
use Rattle.pdb_loading.specs.declared.order.ContributionOrder.TheVariants.{InOrder}
use Rattle.pdb_frames.specs.Choice.{Parts}
use Rattle.pdb_frames.specs.Parts.{outcome}
use Rattle.pdb_container.specs.Fault.{Fault}
use Rattle.pdb_resolving.specs.Fault as answers
use Rattle.pdb_symbols_modules.specs.ModuleStream.{ModuleStream}
use Rattle.pdb_symbols_modules.specs.Dbi.{Dbi}
use Rattle.pdb_symbols_modules.specs.Modules.{Module, modules_of}
use Rattle.pdb_symbols_modules.specs.DatabaseCalls.{names, module_info}
use Rattle.pdb_symbols_modules.specs.Shared.{shared, provider}
use Rattle.pdb_symbols_modules.specs.Streams.{Streams}

-- everything that is read in order, the names of files and modules where there are any, and the
-- stored information of each module in the order of the list
pub record Held : Type 0 where
  pub debug_information : Dbi
  pub tables : Tables
  pub names : Option (List ℕ)
  pub infos : List KeptInfo

-- everything that is read in order
abbrev pub read_in : Held → DatabaseRead
read_in h = record { debug_information = h.debug_information; tables = h.tables }

-- the parts that every question of a context goes over, where section contributions have to stand
-- in this order
abbrev pub parts_held_with : ContributionOrder → Held → Result Parts answers.Fault
parts_held_with order h =
    parts_with order h.tables.map.image h.tables.map h.tables.symbol_records
    h.debug_information.contributions h.names

-- the parts where section contributions have to stand in order
abbrev pub parts_held : Held → Result Parts answers.Fault
parts_held h = parts_held_with InOrder h

-- whether the parts can be made, where section contributions have to stand in this order
abbrev pub parts_checked : ContributionOrder → Held → Result (Unit {0}) answers.Fault
parts_checked order h = outcome (parts_held_with order h)

-- the stored information of the modules of a list
abbrev pub kept_infos : Streams → List Module → List KeptInfo
kept_infos s modules = map (λ m. kept_info (module_info s m)) modules

-- the stored information of the modules that stream 3 lists
abbrev pub listed_infos : Dbi → Streams → List KeptInfo
listed_infos dbi s = kept_infos s (modules_of dbi.modules).items

-- the names in a file

abbrev pub names_in : Streams → Option (List ℕ)
names_in s = if_read (names (shared s))

-- the answer of a file for the module with that index, with a fault as it is stored
abbrev pub given : Streams → ℕ → Result (Option ModuleStream) Fault
given s number = answered (kept_info (provider s number))

-- Names and modules are the file's, but for what its source failed to give: names are missing then,
-- and a module has the source's fault. As many modules are stored as the list has, so past it there
-- is none.
pub record IsOwn (s : Streams) (failed : Type 0) (h : Held) : Type 0 where
  pub names_are : KeepsNames failed h.names (names_in s)
  pub modules_are : (number : ℕ)
      → KeepsAt AnswersSourceFault failed (answered_at h.infos number) (given s number)
  pub count_is : length h.infos ≡ length (modules_of h.debug_information.modules).items
