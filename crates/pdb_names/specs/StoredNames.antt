-- Names as they are stored, and texts that may be made of them.
use Rattle.std.specs.Prelude.{◌≡◌, ℕ, List, Option, None, Some, Result, Ok, Err}
use Rattle.std.specs.Prelude.{IfOk, option_map}
use Rattle.std.specs.Str.Lossy.{utf8_lossy}
use Rattle.pdb_module_data.specs.Procedures.{Procedure}
use Rattle.pdb_resolving.specs.declared.error.Error.{Error}
use Rattle.pdb_resolving.specs.declared.error.Error.TheVariants as errors
use Rattle.pdb_resolving.specs.Fault.{Fault}
use Rattle.pdb_resolving.specs.Resolving.{Provided}
use Rattle.pdb_type_printing.specs.Printed.{Text}
use Rattle.pdb_type_printing.specs.Env.{Env}
use Rattle.pdb_names.specs.Functions.{function_text}
use Rattle.pdb_type_printing.specs.Printing.{Formatting, env_of}

-- a text, if a call that makes one returned it; running out of memory is never taken for a missing
-- text
abbrev pub IsText : {T : Type 0} → Option T → Result T Error → Type 0
IsText text (Ok made) = text ≡ Some made
IsText text (Err errors.OutOfMemory) = ⊥
IsText text (Err e) = text ≡ None

-- A call that returned returned a name, seen by view: this text, or none.
abbrev pub Names : {A E : Type 0} → (A → Text) → Result (Option A) E → Option Text → Type 0
Names view result name = IfOk result (λ n. option_map view n ≡ name)

-- the text that could be made, if one could
abbrev pub if_made : Result (List ℕ) Fault → Option (List ℕ)
if_made (Ok text) = Some text
if_made (Err e) = None

-- the name of a procedure by its type
abbrev pub typed_name : Env → Procedure → Option (List ℕ)
typed_name env q = if_made (function_text env (utf8_lossy q.name) (q.type_index).0)

-- the same, as the module with that index has it
abbrev pub procedure_text : {P : Type 0} → (P → Provided) → Formatting P → ℕ → Procedure
    → Option (List ℕ)
procedure_text provided f module_index q = typed_name (env_of provided f module_index) q
