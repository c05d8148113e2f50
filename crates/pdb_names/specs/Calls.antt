-- The answers of a formatter's calls for signatures, and what they leave.
use Rattle.std.specs.Prelude.{ℕ, String, Result, string_bytes}
use Rattle.pdb_container.specs.declared.index.TypeIndex.{TypeIndex}
use Rattle.pdb_resolving.specs.declared.error.Error.{Error}
use Rattle.pdb_resolving.specs.Fault.{Answers}
use Rattle.pdb_resolving.specs.Resolving.{Provided}
use Rattle.pdb_type_printing.specs.Printed.{Text}
use Rattle.pdb_type_printing.specs.Printing.{Formatting, env_of}
use Rattle.pdb_names.specs.Formatting.{Leaves}
use Rattle.pdb_names.specs.Functions.{function_made, function_text}

-- A call answers the signature of a function of this name and type, as the module with that index
-- has it.
abbrev pub AnswersSignature : {P Z : Type 0} → (P → Provided) → Formatting P → ℕ → Text → TypeIndex
    → Result (String Z) Error → Type 0
AnswersSignature provided f module_index name type_index result =
    Answers string_bytes result (function_text (env_of provided f module_index) name type_index.0)

-- A call leaves of a formatter what the making of that signature leaves.
abbrev pub LeavesSignature : {P A : Type 0} → (P → Provided) → Formatting P → ℕ → Text → TypeIndex
    → Result A Error → Formatting P → Type 0
LeavesSignature provided old module_index name type_index result new =
    Leaves (function_made (env_of provided old module_index) name type_index.0) old result new
