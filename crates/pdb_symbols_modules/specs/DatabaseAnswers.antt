-- The results of calls of an open database, by the streams of its bytes.
use Rattle.std.specs.Prelude.{◌≡◌, ◌≤◌, ◌⊎◌, ℕ, List, Option, None, Some, Result, option_map}
use Rattle.std.specs.Global.{Vec}
use Rattle.pdb_container.specs.declared.error.Error.{Error}
use Rattle.pdb_container.specs.Fault.{Fault, HasRisen, IsOutside, fault_of}
use Rattle.pdb_container.specs.SourceAnswers.{AnswersFrom}
use Rattle.pdb_symbols_modules.specs.Dbi.{Dbi}
use Rattle.pdb_symbols_modules.specs.Streams.{Streams, streams}

-- The database was opened: its source has the bytes of the given source, and has counted at least
-- that source's failures. These bytes are a container that opens.
abbrev pub IsOpened : {S : Type 0} → (S → List ℕ) → (S → ℕ) → S → S → Type 0
IsOpened bytes failures source opened =
    (bytes opened ≡ bytes source) × (failures source ≤ failures opened)
    × ((streams (bytes source)).open_fault ≡ None)

-- The database wasn't opened: memory ran out, or the source failed and counted the failure; or the
-- container has this fault.
abbrev pub IsNotOpened : {S : Type 0} → (S → List ℕ) → (S → ℕ) → S → Error → Type 0
IsNotOpened {S} bytes failures source e =
    IsOutside e ((after : S) × (bytes after ≡ bytes source)
    × HasRisen (failures source) (failures after))
    ⊎ ((streams (bytes source)).open_fault ≡ Some (fault_of e))

-- A call returned, seen by view, the value or fault of reading the file's streams, as `AnswersFrom`
-- says.
abbrev pub FileGives : {S X Y : Type 0} → (S → List ℕ) → (S → ℕ) → S → S → (X → Y)
    → Result X Error → (Streams → Result Y Fault) → Type 0
FileGives bytes failures old new view result read =
    AnswersFrom bytes failures old new view result (read (streams (bytes old)))

-- the same, where the reading depends on the DBI, too
abbrev pub DBIGives : {S X Y : Type 0} → (S → List ℕ) → (S → ℕ) → S → S → Dbi → (X → Y)
    → Result X Error → (Dbi → Streams → Result Y Fault) → Type 0
DBIGives bytes failures old new dbi view result read =
    AnswersFrom bytes failures old new view result (read dbi (streams (bytes old)))

-- the elements of a vector that may be there
abbrev pub listed : {X : Type 0} → Option (Vec X) → Option (List X)
listed v = option_map (λ all. all.items) v
