-- Faults of a file that is read on demand.
use Rattle.pdb_loading.specs.declared.load_fault.LoadFault.{LoadFault}
use Rattle.pdb_loading.specs.declared.on_demand.FileFault.{FileFault}
use Rattle.pdb_loading.specs.declared.on_demand.FileFault.TheVariants.{Load, File}

-- where the fault is one of loading, this is said of it
abbrev pub OnLoadFault : FileFault → (LoadFault → Type 0) → Type 0
OnLoadFault (Load fault) P = P fault
OnLoadFault (File kind) P = Unit {0}
