-- Signatures of functions.
use Rattle.std.specs.Prelude.{ℕ, true, [], ◌∷◌, codes, Option, Some, None, Result, if◌then◌else◌}
use Rattle.std.specs.Prelude.{◌==◌}
use Rattle.pdb_container.specs.Bits.{has_bit}
use Rattle.pdb_container.specs.declared.index.TypeIndex.{TypeIndex}
use Rattle.pdb_records.specs.declared.type_data.MemberFunctionType.{MemberFunctionType}
use Rattle.pdb_records.specs.declared.type_data.ProcedureType.{ProcedureType}
use Rattle.pdb_records.specs.Forms as forms
use Rattle.pdb_records.specs.Forms.{TypeForm, Plain}
use Rattle.pdb_resolving.specs.Cause.{Cause, of_any}
use Rattle.pdb_resolving.specs.Fault.{Fault}
use Rattle.pdb_type_printing.specs.Printed.{Text, Printed, Done, Stopped, ◌>>=◌, say, answered}
use Rattle.pdb_type_printing.specs.Printed.{read_or}
use Rattle.pdb_type_printing.specs.Env.{Env}
use Rattle.pdb_type_printing.specs.Names.{name_or_omitted}
use Rattle.pdb_type_printing.specs.Objects.{static_word}
use Rattle.pdb_type_printing.specs.Types.{Piece, Whole, visiting, returned_unless}
use Rattle.pdb_type_printing.specs.Types.{method_arguments}

-- a piece where one index is on the path
abbrev pub behind : ℕ → Piece → Env → Text → Printed
behind i piece env = piece env (visiting env (i ∷ [])) (i ∷ [])

-- the class that holds a method, before its name
abbrev pub parent_text : Option TypeIndex → Piece
parent_text None env visit path w = Done w
parent_text (Some t) env visit path w = visit Whole path t.0 w >>= say (codes "::")

-- a method with a name, in the class that is named or not
abbrev pub method_text : Option TypeIndex → Text → MemberFunctionType → Piece
method_text parent name t env visit path w = do
  w ← static_word env.flags t.this_pointer_type w
  w ← returned_unless (Some t.return_type) t.attributes env visit path w
  w ← parent_text parent env visit path w
  w ← say (name_or_omitted name) w
  method_arguments t true env visit path w

-- the arguments of a function in brackets, which flag 32 (NO_ARGUMENTS) leaves out
abbrev pub arguments_unless : TypeIndex → Piece
arguments_unless list env visit path w = if has_bit env.flags 32 then Done w else (do
  w ← say (codes "(") w
  w ← visit Whole path list.0 w
  say (codes ")") w)

-- a name and the arguments after it
abbrev pub name_and_arguments : Text → ProcedureType → Piece
name_and_arguments name t env visit path w = do
  w ← say (name_or_omitted name) w
  arguments_unless t.argument_list env visit path w

-- a name by its type, whose index is on the path: a method, another function, or a name as it is
abbrev pub signature : Text → TypeForm → Piece
signature name (Plain (forms.MemberFunction t)) env visit path w =
    method_text None name t env visit path w
signature name (Plain (forms.Procedure t)) env visit path w =
    returned_unless t.return_type t.attributes env visit path w
    >>= name_and_arguments name t env visit path
signature name form env visit path w = say name w

-- a function of a name and a type, after a text; type 0 is none
abbrev pub function_printed : Text → ℕ → Env → Text → Printed
function_printed name i env w =
    if i == 0 then say (name_or_omitted name) w
    else read_or (λ e. Stopped e w) (env.read i) (λ form. behind i (signature name form) env w)

-- a text that was made, or what ended it
abbrev pub MadeText : Type 0
MadeText = Result Text Cause

-- the signature of a function, or what ends it
abbrev pub function_made : Env → Text → ℕ → MadeText
function_made env name i = answered (function_printed name i env [])

-- the signature of a function, or the first fault
abbrev pub function_text : Env → Text → ℕ → Result Text Fault
function_text env name i = of_any (function_made env name i)
