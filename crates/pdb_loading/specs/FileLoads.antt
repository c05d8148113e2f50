-- The loading of a file from what was read of it.
use Rattle.std.specs.Prelude.{◌≡◌, true, ℕ, List, Option}
use Rattle.pdb_file_views.specs.Views.{Views, agrees}
use Rattle.pdb_loading.specs.FileFaults.{OnLoadFault}
use Rattle.pdb_loading.specs.Held.{listed_infos}
use Rattle.pdb_loading.specs.LoadFaults.{Refuses}
use Rattle.pdb_loading.specs.Loading.{LoadingFault, load_fault_with}
use Rattle.pdb_loading.specs.ModuleInfos.{KeptInfo}
use Rattle.pdb_loading.specs.declared.load_fault.LoadFault.{LoadFault}
use Rattle.pdb_loading.specs.declared.on_demand.FileFault.{FileFault}
use Rattle.pdb_loading.specs.declared.order.ContributionOrder.{ContributionOrder}
use Rattle.pdb_symbols_modules.specs.Dbi.{Dbi}
use Rattle.pdb_symbols_modules.specs.Streams.{streams}

-- all that was read of a file agrees with these bytes
abbrev pub Agree : Views → List ℕ → Type 0
Agree views file = agrees views file ≡ true

-- the loading fault of a file of these bytes, where section contributions have to stand in this
-- order
abbrev pub file_fault : ContributionOrder → List ℕ → Option LoadingFault
file_fault order file = load_fault_with order (streams file)

-- a fault refuses the file: memory ran out, or it is the file's
abbrev pub RefusesFile : ContributionOrder → List ℕ → LoadFault → Type 0
RefusesFile order file e = Refuses e (file_fault order file)

-- the same where the fault is one of loading; one of reading the file is of no file's bytes
abbrev pub RefusesToLoad : ContributionOrder → List ℕ → FileFault → Type 0
RefusesToLoad order file e = OnLoadFault e (RefusesFile order file)

-- the stored information of the modules of a file, from the list in its stream 3
abbrev pub AreInfos : Dbi → List ℕ → List KeptInfo → Type 0
AreInfos dbi file infos = infos ≡ listed_infos dbi (streams file)
