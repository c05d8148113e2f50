-- Names of the forms of types and ids.
use Rattle.std.specs.Prelude.{codes}
use Rattle.pdb_records.specs.Forms as forms
use Rattle.pdb_records.specs.Forms.{TypeForm, Plain, FieldList}
use Rattle.pdb_records.specs.IdForms as ids
use Rattle.pdb_records.specs.IdForms.{IdForm}
use Rattle.pdb_type_printing.specs.Printed.{Text, Printed, ◌>>=◌, say}

-- the name of a type's form
unfoldable pub form_name : TypeForm → Text
form_name (Plain (forms.Primitive t)) = codes "Primitive"
form_name (Plain (forms.Class t)) = codes "Class"
form_name (Plain (forms.Member t)) = codes "Member"
form_name (Plain (forms.MemberFunction t)) = codes "MemberFunction"
form_name (Plain (forms.OverloadedMethod t)) = codes "OverloadedMethod"
form_name (Plain (forms.Method t)) = codes "Method"
form_name (Plain (forms.StaticMember t)) = codes "StaticMember"
form_name (Plain (forms.Nested t)) = codes "Nested"
form_name (Plain (forms.BaseClass t)) = codes "BaseClass"
form_name (Plain (forms.VirtualBaseClass t)) = codes "VirtualBaseClass"
form_name (Plain (forms.VirtualFunctionTablePointer t)) = codes "VirtualFunctionTablePointer"
form_name (Plain (forms.Procedure t)) = codes "Procedure"
form_name (Plain (forms.Pointer t)) = codes "Pointer"
form_name (Plain (forms.Modifier t)) = codes "Modifier"
form_name (Plain (forms.Enumeration t)) = codes "Enumeration"
form_name (Plain (forms.Enumerate t)) = codes "Enumerate"
form_name (Plain (forms.Array t)) = codes "Array"
form_name (Plain (forms.Union t)) = codes "Union"
form_name (Plain (forms.Bitfield t)) = codes "Bitfield"
form_name (Plain (forms.ArgumentList ts)) = codes "ArgumentList"
form_name (Plain (forms.MethodList ms)) = codes "MethodList"
form_name (Plain forms.NotPlain) = codes "FieldList"
form_name (FieldList members continuation) = codes "FieldList"

-- the printed text of a type that has no text of its own
abbrev pub unhandled : TypeForm → Text → Printed
unhandled form w = do
  w ← say (codes "unhandled type /* ") w
  w ← say (form_name form) w
  say (codes " */") w

-- the name of an id's form
unfoldable pub id_form_name : IdForm → Text
id_form_name (ids.Function t) = codes "Function"
id_form_name (ids.MemberFunction t) = codes "MemberFunction"
id_form_name (ids.BuildInfo arguments) = codes "BuildInfo"
id_form_name (ids.StringList parts) = codes "StringList"
id_form_name (ids.String t) = codes "String"
id_form_name (ids.UserDefinedTypeSource t) = codes "UserDefinedTypeSource"

-- the printed text of an id that has no text of its own
abbrev pub unhandled_id : IdForm → Text → Printed
unhandled_id form w = do
  w ← say (codes "<unhandled id scope ") w
  w ← say (id_form_name form) w
  say (codes ">::") w
