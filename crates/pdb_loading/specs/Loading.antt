-- The order in which a program database is loaded, and the fault that refuses it.
use Rattle.std.specs.Prelude.{List, ℕ, not, Option, None, Some, Result, Ok, Err}
use Rattle.pdb_addresses.specs.Addresses.{Map, is_ordered}
use Rattle.pdb_container.specs.Fault as container
use Rattle.pdb_container.specs.Fault.{◌>>=◌, refuse}
use Rattle.pdb_container.specs.Listing.{whole}
use Rattle.pdb_container_types.specs.Items.{Table}
use Rattle.pdb_symbols_modules.specs.AddressTables.{address_map_by}
use Rattle.pdb_symbols_modules.specs.Dbi.{Dbi}
use Rattle.pdb_symbols_modules.specs.Modules.{modules_of}
use Rattle.pdb_symbols_modules.specs.DatabaseCalls.{debug_information, global_symbols_by, types}
use Rattle.pdb_symbols_modules.specs.DatabaseCalls.{ids, names}
use Rattle.pdb_symbols_modules.specs.Shared.{Shared, shared, optional_in}
use Rattle.pdb_symbols_modules.specs.Streams.{Streams, fault_in}
use Rattle.pdb_resolving.specs.Fault as answers
use Rattle.pdb_loading.specs.declared.order.ContributionOrder.{ContributionOrder}
use Rattle.pdb_loading.specs.declared.order.ContributionOrder.TheVariants.{InOrder}
use Rattle.pdb_frames.specs.Choice.{Parts}
use Rattle.pdb_loading.specs.ModuleInfos.{if_read}
use Rattle.pdb_loading.specs.Orders.{parts_with}

-- ---- faults

-- the fault that keeps a file from being loaded; out of memory is in no definition
pub data LoadingFault : Type 0 where
  Pdb : answers.Fault → LoadingFault
  AddressTableDecreases : LoadingFault

-- a fault of the container is one of loading
abbrev pub lifted : {A : Type 0} → Result A container.Fault → Result A LoadingFault
lifted (Ok x) = Ok x
lifted (Err e) = Err (Pdb (answers.PdbError e))

-- a fault of the parts that answers go over is one of loading
abbrev pub in_loading : {A : Type 0} → Result A answers.Fault → Result A LoadingFault
in_loading (Ok x) = Ok x
in_loading (Err e) = Err (Pdb e)

-- ---- the order

-- the tables after stream 3: the symbol records' bytes, the tables of types and ids, and the
-- address map
pub record Tables : Type 0 where
  pub symbol_records : List ℕ
  pub types : Table
  pub ids : Table
  pub map : Map

-- everything that was loaded: stream 3, its tables, and the parts that every question goes over
pub record Loaded : Type 0 where
  pub debug_information : Dbi
  pub tables : Tables
  pub parts : Parts

-- whether the container opens
abbrev pub none_or : Option container.Fault → Result (Unit {0}) container.Fault
none_or None = Ok tt
none_or (Some e) = Err e

-- The tables after stream 3, in this order.
unfoldable pub tables : Shared → Dbi → Result Tables container.Fault
tables c dbi = do
  -- the stream of the symbol records
  symbol_records ← global_symbols_by dbi.symbol_records_stream c.symbols
  -- stream 2, types, with its header
  types ← types c
  -- stream 4, ids, with its header
  ids ← ids c
  -- optional header, section headers, original section headers, and with these both OMAPs
  map ← address_map_by (optional_in c dbi)
  Ok record { symbol_records = symbol_records; types = types; ids = ids; map = map }

-- the module list, to its end
unfoldable pub listed : Dbi → Result (Unit {0}) container.Fault
listed dbi = do
  modules ← whole (modules_of dbi.modules)
  Ok tt

-- The parts that every question goes over: the symbol records to their end, and then the
-- contributions, in this order and apart. A string table that can't be read is none.
abbrev pub parts_in : ContributionOrder → Shared → Dbi → Tables → Result Parts LoadingFault
parts_in order c dbi read =
    in_loading
    (parts_with order read.map.image read.map read.symbol_records dbi.contributions
    (if_read (names c)))

-- The order of loading, where section contributions have to stand in this order: the first step
-- that fails has the fault.
unfoldable pub loaded_with : ContributionOrder → Shared → Result Loaded LoadingFault
loaded_with order c = do
  -- the container
  opened ← lifted (none_or c.open_fault)
  -- stream 3 (DBI), with its header
  dbi ← lifted (debug_information c)
  -- symbol records, types, ids, address tables
  read ← lifted (tables c dbi)
  -- no OMAP's sources decrease
  ordered ← refuse (not (is_ordered read.map)) AddressTableDecreases
  -- the module list
  modules ← lifted (listed dbi)
  -- symbols, contributions
  parts ← parts_in order c dbi read
  Ok record { debug_information = dbi; tables = read; parts = parts }

-- everything that is loaded where section contributions have to stand in order
abbrev pub loaded : Shared → Result Loaded LoadingFault
loaded c = loaded_with InOrder c

-- the loading fault of a file where section contributions have to stand in this order
abbrev pub load_fault_with : ContributionOrder → Streams → Option LoadingFault
load_fault_with order s = fault_in (loaded_with order (shared s))

-- the loading fault of a file
abbrev pub load_fault : Streams → Option LoadingFault
load_fault s = fault_in (loaded (shared s))

-- ---- the steps that fail as the container does

-- the part of an open database from which contexts and formatters are made
pub record DatabaseRead : Type 0 where
  pub debug_information : Dbi
  pub tables : Tables

-- the module list, after stream 3 and its tables
abbrev pub read_after : Dbi → Tables → Result DatabaseRead container.Fault
read_after dbi read = do
  modules ← listed dbi
  Ok record { debug_information = dbi; tables = read }

-- The steps of loading that read streams, in the same order: without opening, without the check of
-- OMAPs, and without what a context makes of symbols and contributions.
unfoldable pub database_read : Shared → Result DatabaseRead container.Fault
database_read c = do
  dbi ← debug_information c
  read ← tables c dbi
  read_after dbi read
