-- The form of a type's record: its fields, with the bytes of its names and the elements of its
-- lists instead of references to them.
use Rattle.std.specs.Prelude.{ℕ, List, Option}
use Rattle.pdb_container.specs.declared.index.TypeIndex.{TypeIndex}
use Rattle.pdb_records.specs.declared.primitive.PrimitiveType.{PrimitiveType}
use Rattle.pdb_container.specs.declared.variant.Variant.{Variant}
use Rattle.pdb_records.specs.declared.type_attributes.TypeProperties.{TypeProperties}
use Rattle.pdb_records.specs.declared.type_attributes.FieldAttributes.{FieldAttributes}
use Rattle.pdb_records.specs.declared.type_data.ClassKind.{ClassKind}
use Rattle.pdb_records.specs.declared.type_data.MemberFunctionType.{MemberFunctionType}
use Rattle.pdb_records.specs.declared.type_data.BaseClassType.{BaseClassType}
use Rattle.pdb_records.specs.declared.type_data.VirtualBaseClassType.{VirtualBaseClassType}
use Rattle.pdb_records.specs.declared.type_data.VirtualFunctionTablePointerType.{
  VirtualFunctionTablePointerType,
}
use Rattle.pdb_records.specs.declared.type_data.ProcedureType.{ProcedureType}
use Rattle.pdb_records.specs.declared.type_data.PointerType.{PointerType}
use Rattle.pdb_records.specs.declared.type_data.ModifierType.{ModifierType}
use Rattle.pdb_records.specs.declared.type_data.BitfieldType.{BitfieldType}
use Rattle.pdb_records.specs.declared.type_data.MethodListEntry.{MethodListEntry}

-- a class, struct or interface (LF_CLASS, LF_STRUCTURE, LF_INTERFACE, LF_STRUCTURE19); its size in
-- bytes
pub record ClassForm : Type 0 where
  pub kind : ClassKind
  pub count : ℕ
  pub properties : TypeProperties
  pub fields : Option TypeIndex
  pub derived_from : Option TypeIndex
  pub vtable_shape : Option TypeIndex
  pub size : ℕ
  pub name : List ℕ
  pub unique_name : Option (List ℕ)

-- a member that each object has (LF_MEMBER), at an offset in bytes
pub record MemberForm : Type 0 where
  pub attributes : FieldAttributes
  pub field_type : TypeIndex
  pub offset : ℕ
  pub name : List ℕ

-- methods of one name (LF_METHOD): their number, and the index of their list
pub record OverloadedMethodForm : Type 0 where
  pub count : ℕ
  pub method_list : TypeIndex
  pub name : List ℕ

-- a method that is alone of its name (LF_ONEMETHOD); with its offset in the virtual table, if it
-- introduces one
pub record MethodForm : Type 0 where
  pub attributes : FieldAttributes
  pub method_type : TypeIndex
  pub vtable_offset : Option ℕ
  pub name : List ℕ

-- a member that all objects share (LF_STMEMBER)
pub record StaticMemberForm : Type 0 where
  pub attributes : FieldAttributes
  pub field_type : TypeIndex
  pub name : List ℕ

-- a type that is named inside another one (LF_NESTTYPE, LF_NESTTYPEEX)
pub record NestedForm : Type 0 where
  pub attributes : FieldAttributes
  pub nested_type : TypeIndex
  pub name : List ℕ

-- an enumeration (LF_ENUM): the number of values, the index of their list, and the type that holds
-- one
pub record EnumerationForm : Type 0 where
  pub count : ℕ
  pub properties : TypeProperties
  pub underlying_type : TypeIndex
  pub fields : TypeIndex
  pub name : List ℕ
  pub unique_name : Option (List ℕ)

-- a value of an enumeration (LF_ENUMERATE), with its name
pub record EnumerateForm : Type 0 where
  pub attributes : FieldAttributes
  pub value : Variant
  pub name : List ℕ

-- an array (LF_ARRAY, LF_STRIDED_ARRAY): its stride and its dimensions are sizes in bytes
pub record ArrayForm : Type 0 where
  pub element_type : TypeIndex
  pub indexing_type : TypeIndex
  pub stride : Option ℕ
  pub dimensions : List ℕ

-- a union (LF_UNION); its size in bytes
pub record UnionForm : Type 0 where
  pub count : ℕ
  pub properties : TypeProperties
  pub fields : TypeIndex
  pub size : ℕ
  pub name : List ℕ
  pub unique_name : Option (List ℕ)

-- a type that is no list of members
pub data PlainForm : Type 0 where
  Primitive : PrimitiveType → PlainForm
  Class : ClassForm → PlainForm
  Member : MemberForm → PlainForm
  MemberFunction : MemberFunctionType → PlainForm
  OverloadedMethod : OverloadedMethodForm → PlainForm
  Method : MethodForm → PlainForm
  StaticMember : StaticMemberForm → PlainForm
  Nested : NestedForm → PlainForm
  BaseClass : BaseClassType → PlainForm
  VirtualBaseClass : VirtualBaseClassType → PlainForm
  VirtualFunctionTablePointer : VirtualFunctionTablePointerType → PlainForm
  Procedure : ProcedureType → PlainForm
  Pointer : PointerType → PlainForm
  Modifier : ModifierType → PlainForm
  Enumeration : EnumerationForm → PlainForm
  Enumerate : EnumerateForm → PlainForm
  Array : ArrayForm → PlainForm
  Union : UnionForm → PlainForm
  Bitfield : BitfieldType → PlainForm
  ArgumentList : List TypeIndex → PlainForm
  MethodList : List MethodListEntry → PlainForm
  -- a list of members, which is no such type
  NotPlain : PlainForm

-- a type; a list of members has no such list among them
pub data TypeForm : Type 0 where
  Plain : PlainForm → TypeForm
  FieldList : List PlainForm → Option TypeIndex → TypeForm
