-- Texts of ids: functions with the scopes that hold them, and strings.
use Rattle.std.specs.Prelude.{ℕ, zero, suc, Bool, false, not, List, [], ◌∷◌, ◌++◌, codes, Option}
use Rattle.std.specs.Prelude.{Some, None, Result, if◌then◌else◌}
use Rattle.std.specs.Str.Lossy.{utf8_lossy}
use Rattle.pdb_container.specs.declared.index.TypeIndex.{TypeIndex}
use Rattle.pdb_container.specs.declared.index.IdIndex.{IdIndex}
use Rattle.pdb_records.specs.declared.id_data.FunctionId.{FunctionId}
use Rattle.pdb_records.specs.declared.id_data.MemberFunctionId.{MemberFunctionId}
use Rattle.pdb_records.specs.declared.type_data.ProcedureType.{ProcedureType}
use Rattle.pdb_records.specs.Forms as forms
use Rattle.pdb_records.specs.Forms.{TypeForm, Plain}
use Rattle.pdb_records.specs.IdForms as id_forms
use Rattle.pdb_records.specs.IdForms.{IdForm, FunctionForm, MemberFunctionForm, function_form}
use Rattle.pdb_records.specs.IdForms.{member_function_form}
use Rattle.pdb_resolving.specs.Cause.{ByFault, of_any}
use Rattle.pdb_resolving.specs.Fault.{Fault, FunctionIdIsNotProcedureType}
use Rattle.pdb_resolving.specs.Fault.{MemberFunctionIdIsNotMemberFunctionType}
use Rattle.pdb_resolving.specs.Fault.{CircularTypeDefinition}
use Rattle.pdb_type_printing.specs.Printed.{Text, Printed, Done, Stopped, ◌>>=◌, say, answered}
use Rattle.pdb_type_printing.specs.Printed.{unread, read_or}
use Rattle.pdb_type_printing.specs.Env.{Env}
use Rattle.pdb_type_printing.specs.Paths.{Path, is_on, may_enter, room}
use Rattle.pdb_type_printing.specs.Names.{string_text}
use Rattle.pdb_type_printing.specs.FormNames.{unhandled_id}
use Rattle.pdb_type_printing.specs.Types.{Piece, Whole, visiting, returned_unless}
use Rattle.pdb_names.specs.Functions.{MadeText, behind, method_text, name_and_arguments}

-- the printing of a scope's id: the ids so far, the id, the text so far
abbrev pub VisitId : Type 0
VisitId = Path → ℕ → Text → Printed

-- A piece of the text of ids: the Env of texts, the printing of ids, the ids so far, and the text
-- so far.
abbrev pub IdPiece : Type 0
IdPiece = Env → VisitId → Path → Text → Printed

-- a method by its type, whose index is on the path
abbrev pub method_id_text : MemberFunctionForm → TypeForm → Piece
method_id_text id (Plain (forms.MemberFunction t)) env visit path w =
    method_text (Some id.parent) (utf8_lossy id.name) t env visit path w
method_id_text id form env visit path w =
    Stopped (ByFault MemberFunctionIdIsNotMemberFunctionType) w

-- a method
abbrev pub method_id_printed : MemberFunctionForm → Env → Text → Printed
method_id_printed id env w = read_or (λ e. Stopped e w) (env.read id.function_type.0)
    (λ form. behind id.function_type.0 (method_id_text id form) env w)

-- the scope that holds a function
abbrev pub scope_text : Option IdIndex → IdPiece
scope_text None env visit ids w = Done w
scope_text (Some scope) env visit ids w = visit ids scope.0 w >>= say (codes "::")

-- the type that a function returns, where the index of the function's type is on the path
abbrev pub returned_by : TypeIndex → ProcedureType → Env → Text → Printed
returned_by index t = behind index.0 (returned_unless t.return_type t.attributes)

-- a function's name and arguments, without the scopes that hold it
abbrev pub unscoped_text : FunctionForm → ProcedureType → Env → Text → Printed
unscoped_text id t = behind id.function_type.0 (name_and_arguments (utf8_lossy id.name) t)

-- a function of this type in its scopes
abbrev pub scoped_text : FunctionForm → ProcedureType → IdPiece
scoped_text id t env visit ids w = do
  w ← returned_by id.function_type t env w
  w ← scope_text id.scope env visit ids w
  unscoped_text id t env w

-- a function by its type
abbrev pub function_id_text : FunctionForm → TypeForm → IdPiece
function_id_text id (Plain (forms.Procedure t)) env visit ids w =
    scoped_text id t env visit ids w
function_id_text id form env visit ids w = Stopped (ByFault FunctionIdIsNotProcedureType) w

-- further parts of a list of strings
abbrev pub more_parts : Env → List TypeIndex → Text → Printed
more_parts env [] w = Done w
more_parts env (t ∷ ts) w = do
  w ← say (codes "\" \"") w
  w ← visiting env [] Whole [] t.0 w
  more_parts env ts w

-- the parts of a list of strings
abbrev pub parts : Env → List TypeIndex → Text → Printed
parts env [] w = Done w
parts env (t ∷ ts) w = do
  w ← visiting env [] Whole [] t.0 w
  more_parts env ts w

-- a list of strings in quotation marks
abbrev pub string_list_text : Env → List TypeIndex → Text → Printed
string_list_text env ts w = do
  w ← say (codes "\"") w
  w ← parts env ts w
  say (codes "\"") w

-- an id that is on the path of ids
abbrev pub id_form_text : IdForm → IdPiece
id_form_text (id_forms.MemberFunction id) env visit ids w = method_id_printed id env w
id_form_text (id_forms.Function id) env visit ids w =
    read_or (λ e. Stopped e w) (env.read id.function_type.0)
    (λ form. function_id_text id form env visit ids w)
id_form_text (id_forms.String id) env visit ids w = say (string_text (utf8_lossy id.name)) w
id_form_text (id_forms.StringList ts) env visit ids w = string_list_text env ts w
id_form_text form env visit ids w = unhandled_id form w

-- an id is read before it goes on the path of ids, and has a text where it can't be read
abbrev pub entering_id : Env → Bool → ℕ → Text → (IdForm → Printed) → Printed
entering_id env free i w more = read_or (λ e. unread e w) (env.read_id i)
    (λ form. if free then more form else Stopped (ByFault (CircularTypeDefinition i)) w)

-- an id with room for that many more on the path of ids
unfoldable pub visit_id : Env → ℕ → VisitId
visit_id env zero ids i w = entering_id env false i w
    (λ form. Stopped (ByFault (CircularTypeDefinition i)) w)
visit_id env (suc left) ids i w = entering_id env (not (is_on ids i)) i w
    (λ form. id_form_text form env (visit_id env left) (ids ++ i ∷ []) w)

-- an id as its path leaves room, which ends at 1,024 ids
abbrev pub visiting_id : Env → Path → VisitId
visiting_id env ids = visit_id env (room ids)

-- an id that was read, and goes on the path of ids
abbrev pub entered : IdIndex → IdForm → IdPiece
entered index form env visit ids w =
    if may_enter ids index.0
    then id_form_text form env (visiting_id env (ids ++ index.0 ∷ [])) (ids ++ index.0 ∷ []) w
    else Stopped (ByFault (CircularTypeDefinition index.0)) w

-- the text of an id, or what ends it
abbrev pub id_made : Env → ℕ → MadeText
id_made env i = answered (visit_id env 1024 [] i [])

-- the text of an id, or the first fault
abbrev pub id_text : Env → ℕ → Result Text Fault
id_text env i = of_any (id_made env i)

-- ---- ids as calls have them

-- an id
abbrev pub indexed_id : IdIndex → IdPiece
indexed_id index env visit ids = visit ids index.0

-- a function
abbrev pub function_id : FunctionId → IdPiece
function_id id = id_form_text (id_forms.Function (function_form id))

-- a function of this type in its scopes
abbrev pub scoped : FunctionId → ProcedureType → IdPiece
scoped id t = scoped_text (function_form id) t

-- a function's name and arguments, without the scopes that hold it
abbrev pub unscoped : FunctionId → ProcedureType → Env → Text → Printed
unscoped id t = unscoped_text (function_form id) t

-- a method
abbrev pub method_id : MemberFunctionId → Env → Text → Printed
method_id id = method_id_printed (member_function_form id)
