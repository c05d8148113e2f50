-- The text of a run's fault.
use Rattle.std.specs.Prelude.{List, ℕ, ◌++◌, codes}
use Rattle.pdb_container.specs.ErrorText.{kind_text}
use Rattle.pdb_loading.specs.LoadFaultText.{load_fault_text}
use Rattle.pdb_report.specs.declared.fault.RunFault.{RunFault}
use Rattle.pdb_report.specs.declared.fault.RunFault.TheVariants.{Load, ReversedRange, Read}
use Rattle.pdb_report.specs.declared.fault.RunFault.TheVariants.{Write, InputTooLong}
use Rattle.pdb_report.specs.declared.fault.RunFault.TheVariants.{File, OutOfMemory}

-- the text of a run's fault: the loading fault's, or its name and its kind
abbrev pub run_fault_text : RunFault → List ℕ
run_fault_text (Load fault) = load_fault_text fault
run_fault_text ReversedRange = codes "ReversedRange"
run_fault_text (Read kind) = codes "Read(" ++ kind_text kind ++ codes ")"
run_fault_text (Write kind) = codes "Write(" ++ kind_text kind ++ codes ")"
run_fault_text (File kind) = codes "File(" ++ kind_text kind ++ codes ")"
run_fault_text InputTooLong = codes "InputTooLong"
run_fault_text OutOfMemory = codes "OutOfMemory"
