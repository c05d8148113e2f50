-- The answers of calls that read streams, from the bytes of their source.
use Rattle.std.specs.Prelude.{ℕ, List, Result}
use Rattle.pdb_addresses.specs.Addresses.{Map}
use Rattle.pdb_container.specs.Fault.{Fault, HasRisen}
use Rattle.pdb_container.specs.SourceAnswers.{AnswersFrom}
use Rattle.pdb_container.specs.declared.error.Error.{Error}
use Rattle.pdb_loading.specs.Held.{Held, IsOwn, kept_infos, listed_infos, read_in}
use Rattle.pdb_loading.specs.Loading.{DatabaseRead, Tables, tables}
use Rattle.pdb_loading.specs.ModuleInfos.{KeepsFrom, KeepsInfos, KeptInfo, kept_info}
use Rattle.pdb_symbols_modules.specs.AddressTables.{address_map_by}
use Rattle.pdb_symbols_modules.specs.DatabaseCalls.{global_symbols_by, module_info}
use Rattle.pdb_symbols_modules.specs.Dbi.{Dbi}
use Rattle.pdb_symbols_modules.specs.Modules.{Module}
use Rattle.pdb_symbols_modules.specs.Shared.{shared, optional_in}
use Rattle.pdb_symbols_modules.specs.Streams.{Streams, streams}

-- ---- what calls answer

-- A call answered, seen by view, what is read of the streams of its source, and left the source as
-- it was.
abbrev pub AnswersBy : {S X Y : Type 0} → (S → List ℕ) → (S → ℕ) → S → S → (X → Y)
    → Result X Error → (Streams → Result Y Fault) → Type 0
AnswersBy bytes failures old new view result read =
    AnswersFrom bytes failures old new view result (read (streams (bytes old)))

-- A call returned what there is in the streams of its source, or what stands for a failed source,
-- and left the source as it was.
abbrev pub KeepsBy : {S X Y : Type 0} → (S → List ℕ) → (S → ℕ) → S → S
    → (Type 0 → Y → Y → Type 0) → (X → Y) → Result X Error → (Streams → Y) → Type 0
KeepsBy bytes failures old new keeps view result there =
    KeepsFrom bytes failures old new keeps view result (there (streams (bytes old)))

-- A call holds what it read in order of a database, and left the database's source as it was.
abbrev pub Holds : {S : Type 0} → (S → List ℕ) → (S → ℕ) → S → S → Result Held Error
    → Result DatabaseRead Fault → Type 0
Holds bytes failures old new result read =
    AnswersFrom bytes failures old new read_in result read

-- a held database is the source's own, but for what the source failed to give from one state to
-- another
abbrev pub IsOwnFrom : {S : Type 0} → (S → List ℕ) → (S → ℕ) → S → S → Held → Type 0
IsOwnFrom bytes failures old new held =
    IsOwn (streams (bytes old)) (HasRisen (failures old) (failures new)) held

-- the same of the stored information of the modules that stream 3 lists
abbrev pub KeepsListed : {S : Type 0} → (S → List ℕ) → (S → ℕ) → S → S → Dbi → List KeptInfo
    → Type 0
KeepsListed bytes failures old new dbi kept = KeepsInfos (HasRisen (failures old) (failures new))
    kept (listed_infos dbi (streams (bytes old)))

-- ---- what is read, by stream 3 where it names the streams

-- the symbol records
abbrev pub symbols_by : Dbi → Streams → Result (List ℕ) Fault
symbols_by dbi s = global_symbols_by dbi.symbol_records_stream (shared s).symbols

-- the address map
abbrev pub map_by : Dbi → Streams → Result Map Fault
map_by dbi s = address_map_by (optional_in (shared s) dbi)

-- symbol records, types, ids and address tables
abbrev pub tables_by : Dbi → Streams → Result Tables Fault
tables_by dbi s = tables (shared s) dbi

-- the stored information of a module
abbrev pub info_by : Module → Streams → KeptInfo
info_by m s = kept_info (module_info s m)

-- the stored information of modules
abbrev pub infos_by : List Module → Streams → List KeptInfo
infos_by modules s = kept_infos s modules
