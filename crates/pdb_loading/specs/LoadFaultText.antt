-- The text of a loading fault.
use Rattle.std.specs.Prelude.{◌≡◌, ℕ, List, ◌++◌, codes, string_bytes}
use Rattle.std.specs.Fmt.{decimal}
use Rattle.pdb_container.specs.ErrorText.{error_text, kind_text}
use Rattle.pdb_resolving.specs.declared.error.Error as context
use Rattle.pdb_resolving.specs.declared.error.Error.TheVariants as contexts
use Rattle.pdb_loading.specs.declared.load_fault.LoadFault.{LoadFault}
use Rattle.pdb_loading.specs.declared.load_fault.LoadFault.TheVariants as faults
use Rattle.pdb_loading.specs.declared.on_demand.FileFault.{FileFault}
use Rattle.pdb_loading.specs.declared.on_demand.FileFault.TheVariants.{Load, File}

-- one value in parentheses, after a name that ends with the opening one
abbrev pub with_number : List ℕ → ℕ → List ℕ
with_number name n = name ++ decimal n ++ codes ")"

-- two values
abbrev pub with_numbers : List ℕ → ℕ → ℕ → List ℕ
with_numbers name n m = name ++ decimal n ++ codes ", " ++ decimal m ++ codes ")"

-- the text of a cause: an error of the container prints as it does there, any other as its name
-- and, in parentheses, its values
abbrev pub cause_text : context.Error → List ℕ
cause_text (contexts.PdbError e) = error_text e
cause_text (contexts.FormatError e) = codes "FormatError"
cause_text contexts.ArgumentTypeNotArgumentList = codes "ArgumentTypeNotArgumentList"
cause_text contexts.FunctionIdIsNotProcedureType = codes "FunctionIdIsNotProcedureType"
cause_text contexts.MemberFunctionIdIsNotMemberFunctionType =
    codes "MemberFunctionIdIsNotMemberFunctionType"
cause_text (contexts.UnorderedSectionContributions n m) =
    with_numbers (codes "UnorderedSectionContributions(") n m
cause_text (contexts.OverlappingSectionContributions n m k) =
    codes "OverlappingSectionContributions(" ++ decimal n ++ codes ", " ++ decimal m
    ++ codes ", " ++ decimal k ++ codes ")"
cause_text contexts.ProcedureLinesUnsuccessful = codes "ProcedureLinesUnsuccessful"
cause_text contexts.ProcedureInlineRangesUnsuccessful = codes "ProcedureInlineRangesUnsuccessful"
cause_text contexts.ExtendedModuleInfoUnsuccessful = codes "ExtendedModuleInfoUnsuccessful"
cause_text contexts.ModuleImportsUnsuccessful = codes "ModuleImportsUnsuccessful"
cause_text contexts.ModuleExportsUnsuccessful = codes "ModuleExportsUnsuccessful"
cause_text contexts.CantResolveCrossModuleRefWithoutStringTable =
    codes "CantResolveCrossModuleRefWithoutStringTable"
cause_text (contexts.ModuleNameNotFound name) =
    codes "ModuleNameNotFound(" ++ string_bytes name ++ codes ")"
cause_text (contexts.LocalIndexNotInExports n) = with_number (codes "LocalIndexNotInExports(") n
cause_text (contexts.OutOfRangeModuleIndex n) = with_number (codes "OutOfRangeModuleIndex(") n
cause_text (contexts.ModuleInfoNotFound n) = with_number (codes "ModuleInfoNotFound(") n
cause_text (contexts.CircularTypeDefinition n) = with_number (codes "CircularTypeDefinition(") n
cause_text contexts.OutOfMemory = codes "OutOfMemory"

-- an error without values has this name; nothing is said of others
abbrev pub HasPlainName : context.Error → List ℕ → Type 0
HasPlainName (contexts.PdbError e) name = Unit {0}
HasPlainName (contexts.FormatError e) name = Unit {0}
HasPlainName (contexts.UnorderedSectionContributions n m) name = Unit {0}
HasPlainName (contexts.OverlappingSectionContributions n m k) name = Unit {0}
HasPlainName (contexts.ModuleNameNotFound n) name = Unit {0}
HasPlainName (contexts.LocalIndexNotInExports n) name = Unit {0}
HasPlainName (contexts.OutOfRangeModuleIndex n) name = Unit {0}
HasPlainName (contexts.ModuleInfoNotFound n) name = Unit {0}
HasPlainName (contexts.CircularTypeDefinition n) name = Unit {0}
HasPlainName e name = name ≡ cause_text e

-- the text of a loading fault: its cause, or its name
abbrev pub load_fault_text : LoadFault → List ℕ
load_fault_text (faults.Pdb e) = cause_text e
load_fault_text faults.AddressTableDecreases = codes "AddressTableDecreases"
load_fault_text faults.OutOfMemory = codes "OutOfMemory"

-- the text of the fault of a file that is read on demand: that of the loading fault, or its name
-- and its kind
abbrev pub file_fault_text : FileFault → List ℕ
file_fault_text (Load fault) = load_fault_text fault
file_fault_text (File kind) = codes "File(" ++ kind_text kind ++ codes ")"
