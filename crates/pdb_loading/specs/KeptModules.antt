-- The stored information of modules, whether each was read or is when it is asked for.
use Rattle.std.specs.Prelude.{List}
use Rattle.pdb_loading.specs.declared.module_infos.ModuleStore.{ModuleStore}
use Rattle.pdb_loading.specs.declared.module_infos.ModuleStore.TheVariants.{Read, OnDemand}
use Rattle.pdb_loading.specs.ModuleInfos.{KeptInfo}

-- the stored information of each module, in the order of the list
abbrev pub infos_of : ModuleStore → List KeptInfo
infos_of (Read infos) = infos.items
infos_of (OnDemand modules) = modules
