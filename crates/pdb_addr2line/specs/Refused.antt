-- The faults for which a call that reads a database as a whole may be refused.
use Rattle.std.specs.Prelude.{◌≡◌, ℕ, ◌⊎◌, List, Result, Ok, Err}
use Rattle.pdb_container.specs.declared.error.Error.TheVariants as causes
use Rattle.pdb_container.specs.Fault.{Fault, fault_of, IsOutside, HasRisen}
use Rattle.pdb_resolving.specs.declared.error.Error.{Error}
use Rattle.pdb_resolving.specs.declared.error.Error.TheVariants as errors
use Rattle.pdb_loading.specs.Held.{Held, read_in}
use Rattle.pdb_loading.specs.Loading.{DatabaseRead, database_read}
use Rattle.pdb_symbols_modules.specs.Shared.{shared}
use Rattle.pdb_symbols_modules.specs.Streams.{streams}

-- A source may fail: some state of it with the same bytes has counted more failures.
abbrev pub CanFail : {S : Type 0} → (S → List ℕ) → (S → ℕ) → S → Type 0
CanFail {S} bytes failures before =
    (after : S) × (bytes after ≡ bytes before) × HasRisen (failures before) (failures after)

-- Memory was short, the source failed, or reading has this fault. Out of memory never comes as the
-- container's.
abbrev pub Refuses : {Y : Type 0} → Type 0 → Error → Result Y Fault → Type 0
Refuses failed errors.OutOfMemory read = Unit {0}
Refuses failed (errors.PdbError causes.OutOfMemory) read = ⊥
Refuses failed (errors.PdbError e) read = IsOutside e failed ⊎ (read ≡ Err (fault_of e))
Refuses failed e read = ⊥

-- A call returned what reading gives, seen by view, unless it was refused for what is outside.
abbrev pub Loads : {X Y : Type 0} → (X → Y) → Type 0 → Result X Error → Result Y Fault → Type 0
Loads view failed (Ok x) read = read ≡ Ok (view x)
Loads view failed (Err e) read = Refuses failed e read

-- the tables of a database that are read in order, from the bytes of its file
abbrev pub read_of_file : List ℕ → Result DatabaseRead Fault
read_of_file file = database_read (shared (streams file))

-- A call read a database in order, unless memory was short or its source failed meanwhile.
abbrev pub LoadsFrom : {S : Type 0} → (S → List ℕ) → (S → ℕ) → S → S → Result Held Error → Type 0
LoadsFrom bytes failures old new result =
    Loads read_in (HasRisen (failures old) (failures new)) result (read_of_file (bytes old))
