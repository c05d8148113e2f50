-- Records of types, by their leaves (LF_*): fields in order, and the fault of the first that can't
-- be read. The layouts are those of microsoft-pdb's cvinfo.h and of LLVM's CodeView Type Records,
-- as the pdb crate reads them.
use Rattle.std.specs.Prelude.{ℕ, zero, suc, ◌-◌, ◌^◌, ◌||◌, Bool, not, List, [], ◌∷◌, length}
use Rattle.std.specs.Prelude.{slice_index, Option, Some, None, Ok, Err, nat_lt, ◌==◌, if◌then◌else◌}
use Rattle.std.specs.Prelude.{codes}
use Rattle.std.specs.Int.{w8, w16, w32}
use Rattle.pdb_container.specs.Fault.{UnexpectedEof, UnimplementedFeature, ◌>>=◌, refuse}
use Rattle.pdb_container.specs.Container.{half_at, word_at}
use Rattle.pdb_container.specs.Fields.{Reader, number_at, bytes_of, entries}
use Rattle.pdb_container.specs.declared.index.TypeIndex.{TypeIndex}
use Rattle.pdb_records.specs.declared.type_attributes.FieldAttributes.{FieldAttributes}
use Rattle.pdb_records.specs.declared.type_attributes.PointerAttributes.{PointerAttributes}
use Rattle.pdb_records.specs.declared.type_data.ClassKind.{ClassKind}
use Rattle.pdb_records.specs.declared.type_data.ClassKind.TheVariants as kinds
use Rattle.pdb_records.specs.declared.type_data.MemberFunctionType.{MemberFunctionType}
use Rattle.pdb_records.specs.declared.type_data.BaseClassType.{BaseClassType}
use Rattle.pdb_records.specs.declared.type_data.VirtualBaseClassType.{VirtualBaseClassType}
use Rattle.pdb_records.specs.declared.type_data.VirtualFunctionTablePointerType.{
  VirtualFunctionTablePointerType,
}
use Rattle.pdb_records.specs.declared.type_data.ProcedureType.{ProcedureType}
use Rattle.pdb_records.specs.declared.type_data.PointerType.{PointerType}
use Rattle.pdb_records.specs.declared.type_data.ModifierType.{ModifierType}
use Rattle.pdb_records.specs.declared.type_data.BitfieldType.{BitfieldType}
use Rattle.pdb_records.specs.declared.type_data.MethodListEntry.{MethodListEntry}
use Rattle.pdb_container.specs.Bits.{has_bit}
use Rattle.pdb_records.specs.declared.type_attributes.TypeProperties.{TypeProperties}
use Rattle.pdb_records.specs.Attributes.{introduces, is_known_pointer, is_to_member, names_unique}
use Rattle.pdb_records.specs.Forms.{ClassForm, MemberForm, OverloadedMethodForm, MethodForm}
use Rattle.pdb_records.specs.Forms.{StaticMemberForm, NestedForm, EnumerationForm, EnumerateForm}
use Rattle.pdb_records.specs.Forms.{ArrayForm, UnionForm}
use Rattle.pdb_container.specs.RecordFields.{type_index_at, numeric_at, variant_at, name_at}
use Rattle.pdb_container.specs.RecordFields.{as_value}
use Rattle.pdb_container.specs.RecordFields.{many_at}

-- ---- numbers that stand first

-- the type that a number names: none for 0 and for 0xffff
abbrev pub optional_type : ℕ → Option TypeIndex
optional_type n = if n == 0 || n == 0xffff then None else Some record { 0 = n }

-- a number in two bytes, and a type
abbrev pub half_and_type_at : Reader (ℕ × TypeIndex)
half_and_type_at bytes = do
  front ← bytes_of 6 bytes
  Ok ((half_at front.0 0, record { 0 = word_at front.0 2 }), front.1)

-- two types
abbrev pub two_types_at : Reader (TypeIndex × TypeIndex)
two_types_at bytes = do
  front ← bytes_of 8 bytes
  Ok ((record { 0 = word_at front.0 0 }, record { 0 = word_at front.0 4 }), front.1)

-- a pointer's type, and its attributes, whose kind and mode are known
unfoldable pub pointer_front_at : Reader (TypeIndex × PointerAttributes)
pointer_front_at bytes = do
  front ← bytes_of 8 bytes
  unknown ← refuse (not (is_known_pointer record { 0 = word_at front.0 4 }))
      (UnimplementedFeature (codes "pointer kind or mode"))
  Ok ((record { 0 = word_at front.0 0 }, record { 0 = word_at front.0 4 }), front.1)

-- ---- types of values

-- a modifier, by the places of its numbers: a type, and whether it is constant, volatile or
-- unaligned
abbrev pub modifier_in : List ℕ → ModifierType
modifier_in bytes = record {
  underlying_type = record { 0 = word_at bytes 0 };
  constant = has_bit (half_at bytes 4) 1;
  volatile = has_bit (half_at bytes 4) 2;
  unaligned = has_bit (half_at bytes 4) 4;
}

-- LF_MODIFIER, 6 bytes
unfoldable pub modifier_at : Reader ModifierType
modifier_at bytes = do
  front ← bytes_of 6 bytes
  Ok (modifier_in front.0, front.1)

-- the class of a pointer to a member or a method
unfoldable pub containing_class_at : PointerAttributes → Reader (Option TypeIndex)
containing_class_at attributes bytes =
    if is_to_member attributes then as_value Some (type_index_at bytes)
    else Ok (None, bytes)

-- LF_POINTER: a type, attributes, and the class of a pointer to a member or a method
unfoldable pub pointer_at : Reader PointerType
pointer_at bytes = do
  front ← pointer_front_at bytes
  class ← containing_class_at front.0.1 front.1
  Ok (
    record { underlying_type = front.0.0; attributes = front.0.1; containing_class = class.0 },
    class.1,
  )

-- A function's type, by the places of its numbers: the returned type if there is one, attributes,
-- the number of parameters, and their list.
abbrev pub procedure_in : List ℕ → ProcedureType
procedure_in bytes = record {
  return_type = optional_type (word_at bytes 0);
  attributes = record { 0 = half_at bytes 4 };
  parameter_count = half_at bytes 6;
  argument_list = record { 0 = word_at bytes 8 };
}

-- LF_PROCEDURE, 12 bytes
unfoldable pub procedure_at : Reader ProcedureType
procedure_at bytes = do
  front ← bytes_of 12 bytes
  Ok (procedure_in front.0, front.1)

-- A method's type, by the places of its numbers: the returned type, the class, the type of `this`
-- if there is one, attributes, the number of parameters, their list, and an adjustment.
abbrev pub member_function_in : List ℕ → MemberFunctionType
member_function_in bytes = record {
  return_type = record { 0 = word_at bytes 0 };
  class_type = record { 0 = word_at bytes 4 };
  this_pointer_type = optional_type (word_at bytes 8);
  attributes = record { 0 = half_at bytes 12 };
  parameter_count = half_at bytes 14;
  argument_list = record { 0 = word_at bytes 16 };
  this_adjustment = word_at bytes 20;
}

-- LF_MFUNCTION, 24 bytes
unfoldable pub member_function_at : Reader MemberFunctionType
member_function_at bytes = do
  front ← bytes_of 24 bytes
  Ok (member_function_in front.0, front.1)

-- LF_BITFIELD: a type, the number of bits, and the place of the lowest
unfoldable pub bitfield_at : Reader BitfieldType
bitfield_at bytes = do
  front ← bytes_of 6 bytes
  Ok (
    record {
      underlying_type = record { 0 = word_at front.0 0 };
      length = slice_index front.0 4;
      position = slice_index front.0 5;
    },
    front.1,
  )

-- ---- types with members

-- the unique name, which is there where the properties say so
unfoldable pub unique_name_at : ℕ → TypeProperties → Reader (Option (List ℕ))
unique_name_at leaf properties bytes =
    if names_unique properties then as_value Some (name_at leaf bytes)
    else Ok (None, bytes)

-- the name, and the unique name where the properties say so
unfoldable pub names_at : ℕ → TypeProperties → Reader (List ℕ × Option (List ℕ))
names_at leaf properties bytes = do
  name ← name_at leaf bytes
  unique ← unique_name_at leaf properties name.1
  Ok ((name.0, unique.0), unique.1)

-- the size in bytes, the name, and the unique name where the properties say so
unfoldable pub size_and_names_at : ℕ → TypeProperties → Reader (ℕ × (List ℕ × Option (List ℕ)))
size_and_names_at leaf properties bytes = do
  size ← numeric_at bytes
  names ← names_at leaf properties size.1
  Ok ((size.0, names.0), names.1)

-- LF_CLASS, LF_STRUCTURE, LF_INTERFACE: counts and indices, the size in bytes, the name, and the
-- unique name
unfoldable pub class_at : ℕ → ClassKind → Reader ClassForm
class_at leaf kind bytes = do
  front ← bytes_of 16 bytes
  behind ← size_and_names_at leaf record { 0 = half_at front.0 2 } front.1
  Ok (
    record {
      kind = kind;
      count = half_at front.0 0;
      properties = record { 0 = half_at front.0 2 };
      fields = optional_type (word_at front.0 4);
      derived_from = optional_type (word_at front.0 8);
      vtable_shape = optional_type (word_at front.0 12);
      size = behind.0.0;
      name = behind.0.1.0;
      unique_name = behind.0.1.1;
    },
    behind.1,
  )

-- the number of members, below 65536
unfoldable pub field_count_at : Reader ℕ
field_count_at bytes = do
  count ← numeric_at bytes
  large ← refuse (nat_lt 65535 count.0) (UnimplementedFeature (codes "field count"))
  Ok count

-- LF_STRUCTURE19, a struct as newer compilers write it: the count follows the indices
unfoldable pub newer_struct_at : ℕ → Reader ClassForm
newer_struct_at leaf bytes = do
  front ← bytes_of 16 bytes
  count ← field_count_at front.1
  behind ← size_and_names_at leaf record { 0 = half_at front.0 0 } count.1
  Ok (
    record {
      kind = kinds.Struct;
      count = count.0;
      properties = record { 0 = half_at front.0 0 };
      fields = optional_type (word_at front.0 4);
      derived_from = optional_type (word_at front.0 8);
      vtable_shape = optional_type (word_at front.0 12);
      size = behind.0.0;
      name = behind.0.1.0;
      unique_name = behind.0.1.1;
    },
    behind.1,
  )

-- LF_UNION: the count, properties, the members, the size in bytes, the name, and the unique name
unfoldable pub union_at : ℕ → Reader UnionForm
union_at leaf bytes = do
  front ← bytes_of 8 bytes
  behind ← size_and_names_at leaf record { 0 = half_at front.0 2 } front.1
  Ok (
    record {
      count = half_at front.0 0;
      properties = record { 0 = half_at front.0 2 };
      fields = record { 0 = word_at front.0 4 };
      size = behind.0.0;
      name = behind.0.1.0;
      unique_name = behind.0.1.1;
    },
    behind.1,
  )

-- LF_ENUM: the count, properties, the type that holds a value, the values, the name, and the unique
-- name
unfoldable pub enumeration_at : ℕ → Reader EnumerationForm
enumeration_at leaf bytes = do
  front ← bytes_of 12 bytes
  names ← names_at leaf record { 0 = half_at front.0 2 } front.1
  Ok (
    record {
      count = half_at front.0 0;
      properties = record { 0 = half_at front.0 2 };
      underlying_type = record { 0 = word_at front.0 4 };
      fields = record { 0 = word_at front.0 8 };
      name = names.0.0;
      unique_name = names.0.1;
    },
    names.1,
  )

-- ---- members

-- LF_ENUMERATE: attributes, the value, and its name
unfoldable pub enumerate_at : ℕ → Reader EnumerateForm
enumerate_at leaf bytes = do
  attributes ← number_at w16 bytes
  value ← variant_at attributes.1
  name ← name_at leaf value.1
  Ok (record { attributes = record { 0 = attributes.0 }; value = value.0; name = name.0 }, name.1)

-- LF_MEMBER: attributes, the type, the offset in bytes, and the name
unfoldable pub member_at : ℕ → Reader MemberForm
member_at leaf bytes = do
  front ← half_and_type_at bytes
  offset ← numeric_at front.1
  name ← name_at leaf offset.1
  Ok (
    record {
      attributes = record { 0 = front.0.0 };
      field_type = front.0.1;
      offset = offset.0;
      name = name.0;
    },
    name.1,
  )

-- LF_STMEMBER: attributes, the type, and the name
unfoldable pub static_member_at : ℕ → Reader StaticMemberForm
static_member_at leaf bytes = do
  front ← half_and_type_at bytes
  name ← name_at leaf front.1
  Ok (
    record { attributes = record { 0 = front.0.0 }; field_type = front.0.1; name = name.0 },
    name.1,
  )

-- LF_METHOD: the number of methods that have the name, their list, and the name
unfoldable pub overloaded_method_at : ℕ → Reader OverloadedMethodForm
overloaded_method_at leaf bytes = do
  front ← half_and_type_at bytes
  name ← name_at leaf front.1
  Ok (record { count = front.0.0; method_list = front.0.1; name = name.0 }, name.1)

-- the place in the table of methods, of a method that introduces one
unfoldable pub vtable_offset_at : FieldAttributes → Reader (Option ℕ)
vtable_offset_at attributes bytes =
    if introduces attributes then as_value Some (number_at w32 bytes)
    else Ok (None, bytes)

-- LF_ONEMETHOD: attributes, the type, the offset in the virtual table if it introduces a method,
-- and the name
unfoldable pub method_at : ℕ → Reader MethodForm
method_at leaf bytes = do
  front ← half_and_type_at bytes
  offset ← vtable_offset_at record { 0 = front.0.0 } front.1
  name ← name_at leaf offset.1
  Ok (
    record {
      attributes = record { 0 = front.0.0 };
      method_type = front.0.1;
      vtable_offset = offset.0;
      name = name.0;
    },
    name.1,
  )

-- LF_NESTTYPE, LF_NESTTYPEEX: attributes, the type, and the name
unfoldable pub nested_at : ℕ → Reader NestedForm
nested_at leaf bytes = do
  front ← half_and_type_at bytes
  name ← name_at leaf front.1
  Ok (
    record { attributes = record { 0 = front.0.0 }; nested_type = front.0.1; name = name.0 },
    name.1,
  )

-- LF_BCLASS, LF_BINTERFACE: attributes, the class, and its offset in bytes
unfoldable pub base_class_at : ClassKind → Reader BaseClassType
base_class_at kind bytes = do
  front ← half_and_type_at bytes
  offset ← numeric_at front.1
  Ok (
    record {
      kind = kind;
      attributes = record { 0 = front.0.0 };
      base_class = front.0.1;
      offset = offset.0;
    },
    offset.1,
  )

-- LF_VBCLASS (direct) and LF_IVBCLASS: attributes, the class, the pointer to bases, and two offsets
unfoldable pub virtual_base_class_at : Bool → Reader VirtualBaseClassType
virtual_base_class_at direct bytes = do
  front ← bytes_of 10 bytes
  pointer_offset ← numeric_at front.1
  base_offset ← numeric_at pointer_offset.1
  Ok (
    record {
      direct = direct;
      attributes = record { 0 = half_at front.0 0 };
      base_class = record { 0 = word_at front.0 2 };
      base_pointer = record { 0 = word_at front.0 6 };
      base_pointer_offset = pointer_offset.0;
      virtual_base_offset = base_offset.0;
    },
    base_offset.1,
  )

-- LF_VFUNCTAB: two unused bytes, and the type of the table of methods
unfoldable pub virtual_function_table_pointer_at : Reader VirtualFunctionTablePointerType
virtual_function_table_pointer_at bytes = do
  front ← half_and_type_at bytes
  Ok (record { table = front.0.1 }, front.1)

-- ---- lists

-- LF_ARGLIST: types of parameters, after their count in four bytes
unfoldable pub argument_list_at : Reader (List TypeIndex)
argument_list_at bytes = do
  count ← number_at w32 bytes
  many_at type_index_at count.0 count.1

-- one of the methods of one name: attributes, two unused bytes, the type, and the offset as in
-- LF_ONEMETHOD
unfoldable pub method_list_entry_at : Reader MethodListEntry
method_list_entry_at bytes = do
  front ← bytes_of 8 bytes
  offset ← vtable_offset_at record { 0 = half_at front.0 0 } front.1
  Ok (
    record {
      attributes = record { 0 = half_at front.0 0 };
      method_type = record { 0 = word_at front.0 4 };
      vtable_offset = offset.0;
    },
    offset.1,
  )

-- LF_METHODLIST: methods of one name one after another, to the end
unfoldable pub method_list_at : Reader (List MethodListEntry)
method_list_at bytes = do
  all ← bytes_of (length bytes) bytes
  methods ← entries method_list_entry_at all.0
  Ok (methods, all.1)

-- a size in bytes, below 2^32
unfoldable pub dimension_at : Reader ℕ
dimension_at bytes = do
  size ← numeric_at bytes
  large ← refuse (nat_lt (2 ^ 32 - 1) size.0) (UnimplementedFeature (codes "u64 array sizes"))
  Ok size

-- Sizes, one at least, and the first zero byte after one. Each takes two bytes at least, so there
-- are fewer of them than bytes.
unfoldable pub dimensions_within : ℕ → Reader (List ℕ)
dimensions_within zero bytes = Err UnexpectedEof
dimensions_within (suc steps) bytes = do
  first ← dimension_at bytes
  next ← number_at w8 first.1
  if next.0 == 0 then Ok (first.0 ∷ [], next.1)
      else (dimensions_within steps first.1 >>= λ others. Ok (first.0 ∷ others.0, others.1))

-- the dimensions of an array: sizes in bytes up to a zero byte
abbrev pub dimensions_at : Reader (List ℕ)
dimensions_at bytes = dimensions_within (length bytes) bytes

-- the stride that LF_STRIDED_ARRAY has, in bytes
unfoldable pub stride_at : Bool → Reader (Option ℕ)
stride_at strided bytes = if strided then as_value Some (number_at w32 bytes) else Ok (None, bytes)

-- LF_ARRAY, LF_STRIDED_ARRAY: the types of an element and of an index, the stride, and the
-- dimensions
unfoldable pub array_at : Bool → Reader ArrayForm
array_at strided bytes = do
  front ← two_types_at bytes
  stride ← stride_at strided front.1
  dimensions ← dimensions_at stride.1
  Ok (
    record {
      element_type = front.0.0;
      indexing_type = front.0.1;
      stride = stride.0;
      dimensions = dimensions.0;
    },
    dimensions.1,
  )
