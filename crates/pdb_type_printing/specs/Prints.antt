-- The text that a call of the printer appends.
use Rattle.std.specs.Prelude.{String, Result, string_bytes}
use Rattle.pdb_resolving.specs.declared.stop.Stop.{Stop}
use Rattle.pdb_resolving.specs.Resolving.{Provided}
use Rattle.pdb_type_printing.specs.declared.path.Seen.{Seen}
use Rattle.pdb_type_printing.specs.Printed.{Text, Printed, Prints}
use Rattle.pdb_type_printing.specs.declared.asker.Asker.{Asker}
use Rattle.pdb_type_printing.specs.Env.{Env}
use Rattle.pdb_type_printing.specs.Printing.{Formatting, env_for}
use Rattle.pdb_type_printing.specs.Types.{Piece, visiting}

-- A call appends a text that is made in the asking module.
abbrev pub AppendsText : {P A Z : Type 0} → (P → Provided) → Formatting P → Asker
    → (Env → Text → Printed) → String Z → String Z → Result A Stop → Type 0
AppendsText provided f asker text before after result =
    Prints result (string_bytes after)
    (text (env_for provided f asker) (string_bytes before))

-- The same of a piece of a type's text, where indices are visited behind those of a level's path.
abbrev pub Appends : {P A Z : Type 0} → (P → Provided) → Formatting P → Asker → Seen → Piece
    → String Z → String Z → Result A Stop → Type 0
Appends provided f asker seen piece before after result =
    AppendsText provided f asker
    (λ env. piece env (visiting env seen.path.now.items) seen.path.now.items) before after result
