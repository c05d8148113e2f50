-- The text of an input's fault.
use Rattle.std.specs.Prelude.{List, ℕ, ◌++◌, codes}
use Rattle.pdb_container.specs.ErrorText.{kind_text}
use Rattle.pdb_engine.specs.declared.fault.InputFault.{InputFault}
use Rattle.pdb_engine.specs.declared.fault.InputFault.TheVariants.{Read, Write, InputTooLong}
use Rattle.pdb_engine.specs.declared.fault.InputFault.TheVariants.{OutOfMemory}

-- the text of an input's fault: its name and its kind
abbrev pub input_fault_text : InputFault → List ℕ
input_fault_text (Read kind) = codes "Read(" ++ kind_text kind ++ codes ")"
input_fault_text (Write kind) = codes "Write(" ++ kind_text kind ++ codes ")"
input_fault_text InputTooLong = codes "InputTooLong"
input_fault_text OutOfMemory = codes "OutOfMemory"
