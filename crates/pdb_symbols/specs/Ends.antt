-- The faults of a call that writes a symbol file.
use Rattle.std.specs.Prelude.{◌≡◌}
use Rattle.pdb_loading.specs.declared.on_demand.FileFault.{FileFault}
use Rattle.pdb_loading.specs.declared.on_demand.FileFault.TheVariants as files
use Rattle.pdb_loading.specs.declared.load_fault.LoadFault.TheVariants as faults
use Rattle.pdb_symbols.specs.declared.fault.SymbolsFault.{SymbolsFault}
use Rattle.pdb_symbols.specs.declared.fault.SymbolsFault.TheVariants as ends

-- Writing fails so, or memory is short.
abbrev pub FailsToWrite : SymbolsFault → Type 0
FailsToWrite (ends.Load faults.OutOfMemory) = Unit {0}
FailsToWrite (ends.Write kind) = Unit {0}
FailsToWrite ends.OutputIsRead = Unit {0}
FailsToWrite e = ⊥

-- A file that is read on demand couldn't be read, or memory is short.
abbrev pub IsReadFault : SymbolsFault → Type 0
IsReadFault (ends.Load faults.OutOfMemory) = Unit {0}
IsReadFault (ends.File kind) = Unit {0}
IsReadFault e = ⊥

-- a fault of a file that is read on demand is a fault of loading, or of reading
abbrev pub IsFaultOfFile : FileFault → SymbolsFault → Type 0
IsFaultOfFile (files.Load fault) e = e ≡ ends.Load fault
IsFaultOfFile (files.File kind) e = IsReadFault e
