-- The identity of a database.
use Rattle.std.specs.Prelude.{◌≡◌, ◌==◌, ℕ, List, if◌then◌else◌, Result, Ok}
use Rattle.pdb_container.specs.Fault.{◌>>=◌}
use Rattle.pdb_image.specs.declared.identity.PdbIdentity.{PdbIdentity}
use Rattle.pdb_loading.specs.declared.load_fault.LoadFault.{LoadFault}
use Rattle.pdb_loading.specs.declared.on_demand.FileFault.{FileFault}
use Rattle.pdb_loading.specs.FileFaults.{OnLoadFault}
use Rattle.pdb_loading.specs.LoadFaults.{FailsLoading}
use Rattle.pdb_loading.specs.Loading.{LoadingFault, lifted, none_or}
use Rattle.pdb_symbols_modules.specs.DatabaseCalls.{debug_information, information}
use Rattle.pdb_symbols_modules.specs.Dbi.{Dbi}
use Rattle.pdb_symbols_modules.specs.Information.{Information}
use Rattle.pdb_symbols_modules.specs.Shared.{shared}
use Rattle.pdb_symbols_modules.specs.Streams.{Streams, streams}

-- the GUID of the information stream, and the age of the DBI header, or that of the information
-- stream where the DBI header has none
abbrev pub identity_by : Information → Dbi → PdbIdentity
identity_by i d = record { guid = i.guid; age = if d.age == 0 then i.age else d.age }

-- the identity of a file: the container is opened, and streams 1 and 3 are read, in this order
unfoldable pub identity_in : Streams → Result PdbIdentity LoadingFault
identity_in s = do
  opened ← lifted (none_or s.open_fault)
  i ← lifted (information (shared s))
  d ← lifted (debug_information (shared s))
  Ok (identity_by i d)

-- A file of these bytes has this identity.
abbrev pub HasIdentity : List ℕ → PdbIdentity → Type 0
HasIdentity bytes identity = identity_in (streams bytes) ≡ Ok identity

-- A call that reads the identity from a file of these bytes returns the fault.
abbrev pub FailsIdentity : List ℕ → LoadFault → Type 0
FailsIdentity bytes fault = FailsLoading fault (identity_in (streams bytes))

-- The same where the file couldn't be read, of which nothing is said.
abbrev pub FailsFileIdentity : List ℕ → FileFault → Type 0
FailsFileIdentity bytes fault = OnLoadFault fault (λ cause. FailsIdentity bytes cause)
