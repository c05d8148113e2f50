-- The form of an id's record: its fields, with the bytes of its name and the elements of its list
-- instead of references to them.
use Rattle.std.specs.Prelude.{ℕ, List, Option}
use Rattle.pdb_container.specs.declared.index.TypeIndex.{TypeIndex}
use Rattle.pdb_container.specs.declared.index.IdIndex.{IdIndex}
use Rattle.pdb_records.specs.declared.id_data.IdData.{IdData}
use Rattle.pdb_records.specs.declared.id_data.IdData.TheVariants as ids
use Rattle.pdb_records.specs.declared.id_data.FunctionId.{FunctionId}
use Rattle.pdb_records.specs.declared.id_data.MemberFunctionId.{MemberFunctionId}
use Rattle.pdb_records.specs.declared.id_data.StringId.{StringId}
use Rattle.pdb_records.specs.declared.id_data.UserDefinedTypeSourceId.{UserDefinedTypeSourceId}
use Rattle.pdb_container.specs.RawString.{raw_bytes}

-- a function (LF_FUNC_ID), with the id of the scope around it
pub record FunctionForm : Type 0 where
  pub scope : Option IdIndex
  pub function_type : TypeIndex
  pub name : List ℕ

-- a method (LF_MFUNC_ID), with its class
pub record MemberFunctionForm : Type 0 where
  pub parent : TypeIndex
  pub function_type : TypeIndex
  pub name : List ℕ

-- a text (LF_STRING_ID), with the id of a list of its parts, if it has one
pub record StringForm : Type 0 where
  pub substrings : Option IdIndex
  pub name : List ℕ

-- the form of an id's record
pub data IdForm : Type 0 where
  Function : FunctionForm → IdForm
  MemberFunction : MemberFunctionForm → IdForm
  BuildInfo : List IdIndex → IdForm
  StringList : List TypeIndex → IdForm
  String : StringForm → IdForm
  UserDefinedTypeSource : UserDefinedTypeSourceId → IdForm

-- the form of a function's value
abbrev pub function_form : FunctionId → FunctionForm
function_form t =
    record { scope = t.scope; function_type = t.function_type; name = raw_bytes t.name }

-- the form of a method's value
abbrev pub member_function_form : MemberFunctionId → MemberFunctionForm
member_function_form t =
    record { parent = t.parent; function_type = t.function_type; name = raw_bytes t.name }

-- the form of a text's value
abbrev pub string_form : StringId → StringForm
string_form t = record { substrings = t.substrings; name = raw_bytes t.name }

-- the form of an id's value
abbrev pub id_shape : IdData → IdForm
id_shape (ids.Function t) = Function (function_form t)
id_shape (ids.MemberFunction t) = MemberFunction (member_function_form t)
id_shape (ids.BuildInfo t) = BuildInfo t.arguments.items
id_shape (ids.StringList t) = StringList t.substrings.items
id_shape (ids.String t) = String (string_form t)
id_shape (ids.UserDefinedTypeSource t) = UserDefinedTypeSource t
