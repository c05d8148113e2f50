-- Reports from a file that is read on demand.
pub use Rattle.pdb_addr2line.specs.declared.file_on_demand.FileOnDemand.{FileOnDemand}
use Rattle.pdb_report.specs.declared.fault.RunFault.{RunFault}
use Rattle.pdb_report.specs.declared.fault.RunFault.TheVariants.{Load, ReversedRange, Read}
use Rattle.pdb_report.specs.declared.fault.RunFault.TheVariants.{Write, InputTooLong}
use Rattle.pdb_report.specs.declared.fault.RunFault.TheVariants.{File, OutOfMemory}

-- where memory ran out, or the file couldn't be read, this is said
abbrev pub IfRefused : RunFault → Type 0 → Type 0
IfRefused OutOfMemory P = P
IfRefused (File kind) P = P
IfRefused (Load fault) P = Unit {0}
IfRefused ReversedRange P = Unit {0}
IfRefused (Read kind) P = Unit {0}
IfRefused (Write kind) P = Unit {0}
IfRefused InputTooLong P = Unit {0}
