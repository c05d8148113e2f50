-- Modules that name one stream: it is read once, and they share it.
use Rattle.std.specs.Prelude.{◌≡◌, ℕ, ◌≤◌, ◌⊎◌, List, None, Some, Ok, Err}
use Rattle.std.specs.BTreeMap.{BTreeMap, get}
use Rattle.std.specs.Result.{IsErrAnd}
use Rattle.std.specs.Ordering.{nat_cmp}
use Rattle.pdb_container.specs.Fault.{HasRisen}
use Rattle.pdb_loading.specs.ModuleInfos.{KeptInfo, kept_info, IsSourceFault, KeepsInfo}
use Rattle.pdb_symbols_modules.specs.DatabaseCalls.{module_info}
use Rattle.pdb_symbols_modules.specs.Modules.{Module}
use Rattle.pdb_symbols_modules.specs.Shared.{module_stream}
use Rattle.pdb_symbols_modules.specs.Streams.{Streams, streams}

-- the stored information of a module, from that of another one that names the same stream: the
-- other's bytes, in parts of its own sizes
abbrev pub in_parts_of : Module → KeptInfo → KeptInfo
in_parts_of m (Ok None) = Ok None
in_parts_of m (Ok (Some info)) = Ok (Some (module_stream m info.bytes))
in_parts_of m (Err fault) = Err fault

-- the information stored of a stream is what each module has that names its number
abbrev pub IsOfStream : Streams → ℕ → KeptInfo → Type 0
IsOfStream s number kept =
    (m : Module) → m.stream ≡ number → kept_info (module_info s m) ≡ in_parts_of m kept

-- The information stored of a stream is the stream's, or the source failed, and it is the source's
-- fault.
abbrev pub KeepsStream : Streams → Type 0 → ℕ → KeptInfo → Type 0
KeepsStream s failed number kept =
    IsOfStream s number kept ⊎ (failed × IsErrAnd kept IsSourceFault)

-- streams by their numbers, as they were stored
pub record AreOfStreams (s : Streams) (failed : Type 0) (read : BTreeMap ℕ KeptInfo) : Type 0 where
  pub each : (number : ℕ) (kept : KeptInfo) → get nat_cmp read number ≡ Some kept
      → KeepsStream s failed number kept

-- the stored information of one module more, and of the streams that were read then
pub record IsShared (s : Streams) (m : Module) (failed : Type 0) (kept : KeptInfo)
    (read : BTreeMap ℕ KeptInfo) : Type 0 where
  pub own : KeepsInfo failed kept (kept_info (module_info s m))
  pub others : AreOfStreams s failed read

-- One module more is stored: where the streams that were stored are the file's, but for failures
-- since some count, the module shares them, and they still are the file's.
abbrev pub SharesInfo : Streams → Module → ℕ → ℕ → BTreeMap ℕ KeptInfo → BTreeMap ℕ KeptInfo
    → KeptInfo → Type 0
SharesInfo s m failures failures' read read' kept = (before : ℕ) → before ≤ failures
    → AreOfStreams s (HasRisen before failures) read
    → IsShared s m (HasRisen before failures') kept read'

-- the same from the source of these streams, and its failures at two states
abbrev pub SharesFrom : {S : Type 0} → (S → List ℕ) → (S → ℕ) → S → S → Module
    → BTreeMap ℕ KeptInfo → BTreeMap ℕ KeptInfo → KeptInfo → Type 0
SharesFrom bytes failures old new m read read' kept =
    SharesInfo (streams (bytes old)) m (failures old) (failures new) read read' kept
