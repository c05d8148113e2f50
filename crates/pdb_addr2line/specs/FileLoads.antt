-- Loading a file that is read on demand.
use Rattle.std.specs.Prelude.{◌≡◌, ℕ, true, List, [], Option, None}
use Rattle.pdb_addr2line.specs.declared.file_on_demand.FileOnDemand.{FileOnDemand}
use Rattle.pdb_file_views.specs.Views.{agrees}
use Rattle.pdb_loading.specs.declared.on_demand.FileFault.{FileFault}
use Rattle.pdb_loading.specs.FileFaults.{OnLoadFault}
use Rattle.pdb_loading.specs.declared.order.ContributionOrder.TheVariants.{InOrder}
use Rattle.pdb_loading.specs.Held.{Held, kept_infos}
use Rattle.pdb_loading.specs.LoadFaults.{Refuses}
use Rattle.pdb_loading.specs.Loading.{LoadingFault, load_fault_with}
use Rattle.pdb_loading.specs.ModuleInfos.{KeptInfo}
use Rattle.pdb_symbols_modules.specs.Modules.{modules_of}
use Rattle.pdb_symbols_modules.specs.Streams.{streams}

-- the loading fault of a file, if it has one
abbrev pub fault_of_file : {F : Type 0} → FileOnDemand F → Option LoadingFault
fault_of_file source = load_fault_with source.order (streams source.contents.numbers)

-- A file of so many bytes of which nothing was read.
abbrev pub IsUnread : {F : Type 0} → ℕ → FileOnDemand F → Type 0
IsUnread size source = (source.views.size ≡ size) × (source.views.views ≡ [])
    × (source.views.whole ≡ None) × (source.order ≡ InOrder)

-- The bytes that were read agree with those that a file is taken to have.
abbrev pub AgreesWith : {F : Type 0} → FileOnDemand F → FileOnDemand F → Type 0
AgreesWith read source = agrees read.views source.contents.numbers ≡ true

-- A file that came back was refused: where its bytes agree with what was read, for its loading
-- fault, unless memory ran out or the file couldn't be read.
abbrev pub RefusesFile : {F : Type 0} → FileOnDemand F → FileOnDemand F → FileFault → Type 0
RefusesFile source back fault = AgreesWith back source
    → OnLoadFault fault (λ cause. Refuses cause (fault_of_file source))

-- The modules of a file, from its database, which is held.
abbrev pub AreInfosOf : {F : Type 0} → FileOnDemand F → Held → List KeptInfo → Type 0
AreInfosOf source held infos = infos ≡ kept_infos (streams source.contents.numbers)
    (modules_of held.debug_information.modules).items
