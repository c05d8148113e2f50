-- A file that is held, and one that was loaded: what is held is the file's.
use Rattle.std.specs.Prelude.{◌≡◌, ℕ, true, List, Result, Ok}
use Rattle.pdb_addresses.specs.Addresses.{IsOrdered, is_ordered}
use Rattle.pdb_container.specs.Fault.{◌>>=◌}
use Rattle.pdb_symbols_modules.specs.Dbi.{Dbi}
use Rattle.pdb_symbols_modules.specs.DatabaseCalls.{debug_information}
use Rattle.pdb_symbols_modules.specs.Shared.{shared}
use Rattle.pdb_symbols_modules.specs.Streams.{Streams, streams}
use Rattle.pdb_loading.specs.declared.order.ContributionOrder.{ContributionOrder}
use Rattle.pdb_frames.specs.Choice.{Parts}
use Rattle.pdb_loading.specs.Held.{Held, given, names_in, parts_held_with}
use Rattle.pdb_loading.specs.ModuleInfos.{answered_at}
use Rattle.pdb_loading.specs.Loading.{Loaded, LoadingFault, Tables, in_loading, loaded_with, tables}

-- a file that was loaded: its bytes, and the order in which section contributions have to stand
pub record FileBytes : Type 0 where
  pub bytes : List ℕ
  pub order : ContributionOrder

-- the last step of loading: the parts of what is held, where section contributions have to stand in
-- this order
abbrev pub loaded_by : ContributionOrder → Held → Result Loaded LoadingFault
loaded_by order h = do
  parts ← in_loading (parts_held_with order h)
  Ok record { debug_information = h.debug_information; tables = h.tables; parts = parts }

-- All that is read before the parts are made, the string table, and what is given of each module
-- are the file's, so that only the parts can still refuse it, in whichever order section
-- contributions have to stand.
pub record IsHeld (file : List ℕ) (h : Held) : Type 0 where
  pub loads : (order : ContributionOrder)
      → loaded_with order (shared (streams file)) ≡ loaded_by order h
  pub ordered : IsOrdered h.tables.map
  pub names_are : h.names ≡ names_in (streams file)
  pub modules_are : (number : ℕ) → answered_at h.infos number ≡ given (streams file) number

-- All that was loaded, where section contributions have to stand in this order, the string table,
-- and what is given of each module are the file's.
pub record IsLoadedWith (order : ContributionOrder) (file : List ℕ) (h : Held) : Type 0 where
  pub parts : Parts
  pub loaded_is : loaded_with order (shared (streams file)) ≡ Ok record {
    debug_information = h.debug_information;
    tables = h.tables;
    parts = parts;
  }
  pub parts_are : parts_held_with order h ≡ Ok parts
  pub ordered : IsOrdered h.tables.map
  pub names_are : h.names ≡ names_in (streams file)
  pub modules_are : (number : ℕ) → answered_at h.infos number ≡ given (streams file) number

-- Stream 3 and its tables are the file's, and the OMAPs are in order.
pub record AreInOrder (s : Streams) (dbi : Dbi) (read : Tables) : Type 0 where
  pub dbi_is : debug_information (shared s) ≡ Ok dbi
  pub tables_are : tables (shared s) dbi ≡ Ok read
  pub in_order : is_ordered read.map ≡ true
  pub ordered : IsOrdered read.map
