-- The form of a type's value.
use Rattle.std.specs.Prelude.{ℕ, List, Option, map, option_map}
use Rattle.pdb_container.specs.RawString.{raw_bytes}
use Rattle.pdb_container.specs.declared.raw_string.RawString.{RawString}
use Rattle.pdb_records.specs.declared.type_data.ClassType.{ClassType}
use Rattle.pdb_records.specs.declared.type_data.MemberType.{MemberType}
use Rattle.pdb_records.specs.declared.type_data.OverloadedMethodType.{OverloadedMethodType}
use Rattle.pdb_records.specs.declared.type_data.MethodType.{MethodType}
use Rattle.pdb_records.specs.declared.type_data.StaticMemberType.{StaticMemberType}
use Rattle.pdb_records.specs.declared.type_data.NestedType.{NestedType}
use Rattle.pdb_records.specs.declared.type_data.EnumerationType.{EnumerationType}
use Rattle.pdb_records.specs.declared.type_data.EnumerateType.{EnumerateType}
use Rattle.pdb_records.specs.declared.type_data.ArrayType.{ArrayType}
use Rattle.pdb_records.specs.declared.type_data.UnionType.{UnionType}
use Rattle.pdb_records.specs.declared.type_data.FieldList as field_list
use Rattle.pdb_records.specs.declared.type_data.TypeData.{TypeData, TypeData-F, out-TypeData}
use Rattle.pdb_records.specs.declared.type_data.TypeData.TheOpen as open_data
use Rattle.pdb_records.specs.declared.parse_record.FieldEntry.{FieldEntry}
use Rattle.pdb_records.specs.declared.parse_record.FieldEntry.TheVariants as entries
use Rattle.pdb_records.specs.TypeLeaves.{FieldForm, Field, Continuation, Padding}
use Rattle.pdb_records.specs.Forms as forms
use Rattle.pdb_records.specs.Forms.{PlainForm, TypeForm}

-- the bytes of a name and of a unique name
abbrev pub names_shape : RawString × Option RawString → List ℕ × Option (List ℕ)
names_shape names = (raw_bytes names.0, option_map raw_bytes names.1)

-- a size, and the bytes of the two names
abbrev pub sized_names_shape : ℕ × (RawString × Option RawString)
    → ℕ × (List ℕ × Option (List ℕ))
sized_names_shape sized = (sized.0, names_shape sized.1)

-- the form of the value of a class, struct or interface
abbrev pub class_form : ClassType → forms.ClassForm
class_form t =
    record {
      kind = t.kind;
      count = t.count;
      properties = t.properties;
      fields = t.fields;
      derived_from = t.derived_from;
      vtable_shape = t.vtable_shape;
      size = t.size;
      name = raw_bytes t.name;
      unique_name = option_map raw_bytes t.unique_name;
    }

-- the form of a member's value
abbrev pub member_form : MemberType → forms.MemberForm
member_form t =
    record {
      attributes = t.attributes;
      field_type = t.field_type;
      offset = t.offset;
      name = raw_bytes t.name;
    }

-- the form of the value of methods of one name
abbrev pub overloaded_method_form : OverloadedMethodType → forms.OverloadedMethodForm
overloaded_method_form t =
    record { count = t.count; method_list = t.method_list; name = raw_bytes t.name }

-- the form of a method's value
abbrev pub method_form : MethodType → forms.MethodForm
method_form t =
    record {
      attributes = t.attributes;
      method_type = t.method_type;
      vtable_offset = t.vtable_offset;
      name = raw_bytes t.name;
    }

-- the form of the value of a member that all objects share
abbrev pub static_member_form : StaticMemberType → forms.StaticMemberForm
static_member_form t =
    record { attributes = t.attributes; field_type = t.field_type; name = raw_bytes t.name }

-- the form of the value of a type named inside another one
abbrev pub nested_form : NestedType → forms.NestedForm
nested_form t =
    record { attributes = t.attributes; nested_type = t.nested_type; name = raw_bytes t.name }

-- the form of an enumeration's value
abbrev pub enumeration_form : EnumerationType → forms.EnumerationForm
enumeration_form t =
    record {
      count = t.count;
      properties = t.properties;
      underlying_type = t.underlying_type;
      fields = t.fields;
      name = raw_bytes t.name;
      unique_name = option_map raw_bytes t.unique_name;
    }

-- the form of the value of an enumeration's value
abbrev pub enumerate_form : EnumerateType → forms.EnumerateForm
enumerate_form t = record { attributes = t.attributes; value = t.value; name = raw_bytes t.name }

-- the form of an array's value
abbrev pub array_form : ArrayType → forms.ArrayForm
array_form t =
    record {
      element_type = t.element_type;
      indexing_type = t.indexing_type;
      stride = t.stride;
      dimensions = t.dimensions.items;
    }

-- the form of a union's value
abbrev pub union_form : UnionType → forms.UnionForm
union_form t =
    record {
      count = t.count;
      properties = t.properties;
      fields = t.fields;
      size = t.size;
      name = raw_bytes t.name;
      unique_name = option_map raw_bytes t.unique_name;
    }

-- one level of a type, except lists of members
abbrev pub plain_level : {A B : Type 0} → TypeData-F A B → PlainForm
plain_level (open_data.Primitive t) = forms.Primitive t
plain_level (open_data.Class t) = forms.Class (class_form t)
plain_level (open_data.Member t) = forms.Member (member_form t)
plain_level (open_data.MemberFunction t) = forms.MemberFunction t
plain_level (open_data.OverloadedMethod t) = forms.OverloadedMethod (overloaded_method_form t)
plain_level (open_data.Method t) = forms.Method (method_form t)
plain_level (open_data.StaticMember t) = forms.StaticMember (static_member_form t)
plain_level (open_data.Nested t) = forms.Nested (nested_form t)
plain_level (open_data.BaseClass t) = forms.BaseClass t
plain_level (open_data.VirtualBaseClass t) = forms.VirtualBaseClass t
plain_level (open_data.VirtualFunctionTablePointer t) = forms.VirtualFunctionTablePointer t
plain_level (open_data.Procedure t) = forms.Procedure t
plain_level (open_data.Pointer t) = forms.Pointer t
plain_level (open_data.Modifier t) = forms.Modifier t
plain_level (open_data.Enumeration t) = forms.Enumeration (enumeration_form t)
plain_level (open_data.Enumerate t) = forms.Enumerate (enumerate_form t)
plain_level (open_data.Array t) = forms.Array (array_form t)
plain_level (open_data.Union t) = forms.Union (union_form t)
plain_level (open_data.Bitfield t) = forms.Bitfield t
plain_level (open_data.ArgumentList t) = forms.ArgumentList t.arguments.items
plain_level (open_data.MethodList t) = forms.MethodList t.methods.items
plain_level (open_data.FieldList t) = forms.NotPlain

-- a type that is no list of members
abbrev pub plain_shape : TypeData → PlainForm
plain_shape t = plain_level (out-TypeData t)

-- the form of the value of a list of members
abbrev pub field_list_shape : field_list.FieldList → TypeForm
field_list_shape t = forms.FieldList (map plain_shape (field_list.out-FieldList t).fields.items)
    (field_list.out-FieldList t).continuation

-- the form of a type's value, opened by one level
abbrev pub level : TypeData-F TypeData field_list.FieldList → TypeForm
level (open_data.FieldList t) = field_list_shape t
level t = forms.Plain (plain_level t)

-- the form of a type's value
abbrev pub shape : TypeData → TypeForm
shape t = level (out-TypeData t)

-- ---- entries of a list of members

-- the form of an entry of a list of members
abbrev pub field_form : FieldEntry → FieldForm
field_form (entries.Field t) = Field (plain_shape t)
field_form (entries.Continuation index) = Continuation index
field_form entries.Padding = Padding
