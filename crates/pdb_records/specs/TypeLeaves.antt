-- The record that a leaf begins, and the form of a type's record. The leaves are LEAF_ENUM_e of
-- microsoft-pdb's cvinfo.h; those that end with _ST are the older ones.
use Rattle.std.specs.Prelude.{ℕ, zero, suc, ◌-◌, true, false, max, ◌||◌, List, [], ◌∷◌, ◌++◌}
use Rattle.std.specs.Prelude.{length, Option, Some, None, Result, Ok, Err, nat_le, ◌==◌}
use Rattle.std.specs.Prelude.{if◌then◌else◌}
use Rattle.std.specs.Int.{w8, w16}
use Rattle.pdb_container.specs.Fault.{Fault, UnimplementedTypeKind, ◌>>=◌}
use Rattle.pdb_container.specs.Fields.{Reader, number_at, bytes_of}
use Rattle.pdb_container.specs.declared.index.TypeIndex.{TypeIndex}
use Rattle.pdb_records.specs.declared.type_data.ClassKind.TheVariants as kinds
use Rattle.pdb_records.specs.Forms as forms
use Rattle.pdb_records.specs.Forms.{PlainForm, TypeForm}
use Rattle.pdb_container.specs.RecordFields.{type_index_at, as_value}
use Rattle.pdb_records.specs.TypeRecords.{modifier_at, pointer_at, procedure_at, member_function_at}
use Rattle.pdb_records.specs.TypeRecords.{bitfield_at, class_at, newer_struct_at, union_at}
use Rattle.pdb_records.specs.TypeRecords.{enumeration_at, enumerate_at, member_at, static_member_at}
use Rattle.pdb_records.specs.TypeRecords.{overloaded_method_at, method_at, nested_at, base_class_at}
use Rattle.pdb_records.specs.TypeRecords.{virtual_base_class_at, virtual_function_table_pointer_at}
use Rattle.pdb_records.specs.TypeRecords.{argument_list_at, method_list_at, array_at}

-- the record after its leaf, of a type with members: class, struct, interface, union or enumeration
unfoldable pub aggregate_at : ℕ → Reader PlainForm
aggregate_at leaf bytes =
    if leaf == 0x1504 || leaf == 0x1004 then  -- LF_CLASS, LF_CLASS_ST
    as_value forms.Class (class_at leaf kinds.Class bytes)
    else (if leaf == 0x1505 || leaf == 0x1005 then  -- LF_STRUCTURE, LF_STRUCTURE_ST
    as_value forms.Class (class_at leaf kinds.Struct bytes)
    else (if leaf == 0x1519 then  -- LF_INTERFACE
    as_value forms.Class (class_at leaf kinds.Interface bytes)
    else (if leaf == 0x1609 then  -- LF_STRUCTURE19
    as_value forms.Class (newer_struct_at leaf bytes)
    else (if leaf == 0x1506 || leaf == 0x1006 then  -- LF_UNION, LF_UNION_ST
    as_value forms.Union (union_at leaf bytes)
    else (if leaf == 0x1507 || leaf == 0x1007 then  -- LF_ENUM, LF_ENUM_ST
    as_value forms.Enumeration (enumeration_at leaf bytes)
    else Err (UnimplementedTypeKind leaf))))))

-- the record after its leaf, of a type that stands on its own, or of a list of its parts
unfoldable pub type_at : ℕ → Reader PlainForm
type_at leaf bytes =
    if leaf == 0x1001 then  -- LF_MODIFIER
    as_value forms.Modifier (modifier_at bytes)
    else (if leaf == 0x1002 then  -- LF_POINTER
    as_value forms.Pointer (pointer_at bytes)
    else (if leaf == 0x1008 then  -- LF_PROCEDURE
    as_value forms.Procedure (procedure_at bytes)
    else (if leaf == 0x1009 then  -- LF_MFUNCTION
    as_value forms.MemberFunction (member_function_at bytes)
    else (if leaf == 0x1205 then  -- LF_BITFIELD
    as_value forms.Bitfield (bitfield_at bytes)
    else (if leaf == 0x1201 then  -- LF_ARGLIST
    as_value forms.ArgumentList (argument_list_at bytes)
    else (if leaf == 0x1206 then  -- LF_METHODLIST
    as_value forms.MethodList (method_list_at bytes)
    else (if leaf == 0x1503 || leaf == 0x1003 then  -- LF_ARRAY, LF_ARRAY_ST
    as_value forms.Array (array_at false bytes)
    else (if leaf == 0x1516 then  -- LF_STRIDED_ARRAY
    as_value forms.Array (array_at true bytes)
    else aggregate_at leaf bytes))))))))

-- the record after its leaf, of a base class, of the pointer to a virtual function table, or of a
-- type
unfoldable pub base_at : ℕ → Reader PlainForm
base_at leaf bytes =
    if leaf == 0x1400 then  -- LF_BCLASS
    as_value forms.BaseClass (base_class_at kinds.Class bytes)
    else (if leaf == 0x151a then  -- LF_BINTERFACE
    as_value forms.BaseClass (base_class_at kinds.Interface bytes)
    else (if leaf == 0x1401 then  -- LF_VBCLASS
    as_value forms.VirtualBaseClass (virtual_base_class_at true bytes)
    else (if leaf == 0x1402 then  -- LF_IVBCLASS
    as_value forms.VirtualBaseClass (virtual_base_class_at false bytes)
    else (if leaf == 0x1409 then  -- LF_VFUNCTAB
    as_value forms.VirtualFunctionTablePointer (virtual_function_table_pointer_at bytes)
    else type_at leaf bytes))))

-- the record after its leaf, of a member, or of a type that is no list of members
unfoldable pub plain_at : ℕ → Reader PlainForm
plain_at leaf bytes =
    if leaf == 0x1502 || leaf == 0x403 then  -- LF_ENUMERATE, LF_ENUMERATE_ST
    as_value forms.Enumerate (enumerate_at leaf bytes)
    else (if leaf == 0x150d || leaf == 0x1405 then  -- LF_MEMBER, LF_MEMBER_ST
    as_value forms.Member (member_at leaf bytes)
    else (if leaf == 0x150e || leaf == 0x1406 then  -- LF_STMEMBER, LF_STMEMBER_ST
    as_value forms.StaticMember (static_member_at leaf bytes)
    else (if leaf == 0x150f || leaf == 0x1407 then  -- LF_METHOD, LF_METHOD_ST
    as_value forms.OverloadedMethod (overloaded_method_at leaf bytes)
    else (if leaf == 0x1511 || leaf == 0x140b then  -- LF_ONEMETHOD, LF_ONEMETHOD_ST
    as_value forms.Method (method_at leaf bytes)
    else (if leaf == 0x1510 || leaf == 0x1512  -- LF_NESTTYPE, LF_NESTTYPEEX
    || leaf == 0x1408 || leaf == 0x140d then  -- LF_NESTTYPE_ST, LF_NESTTYPEEX_ST
    as_value forms.Nested (nested_at leaf bytes)
    else base_at leaf bytes)))))

-- ---- lists of members

-- an entry of a list of members: a member, the index of the list that continues it, or bytes to be
-- passed over
pub data FieldForm : Type 0 where
  Field : PlainForm → FieldForm
  Continuation : TypeIndex → FieldForm
  Padding : FieldForm

-- LF_INDEX: the index of the list that continues a list of members, after two unused bytes
unfoldable pub continuation_at : Reader TypeIndex
continuation_at bytes = do
  unused ← number_at w16 bytes
  type_index_at unused.1

-- an entry of a list of members, after its leaf
unfoldable pub field_behind : ℕ → Reader FieldForm
field_behind leaf bytes =
    if leaf == 0x1404 then as_value Continuation (continuation_at bytes)  -- LF_INDEX
    else as_value Field (plain_at leaf bytes)

-- padding bytes, of which the first states their number: itself at least
abbrev pub padding_at : ℕ → Reader FieldForm
padding_at first bytes = as_value (λ skipped. Padding) (bytes_of (max 1 (first - 0xf0)) bytes)

-- an entry of a list of members: padding bytes (LF_PAD0 and above), or a leaf and its record
unfoldable pub field_at : Reader FieldForm
field_at bytes = do
  first ← number_at w8 bytes
  if nat_le 0xf0 first.0 then padding_at first.0 bytes
      else (number_at w16 bytes >>= λ leaf. field_behind leaf.0 leaf.1)

-- the members that are known after an entry
abbrev pub with_field : FieldForm → List PlainForm → List PlainForm
with_field (Field form) fields = fields ++ form ∷ []
with_field (Continuation index) fields = fields
with_field Padding fields = fields

-- the list that continues a list of members, after an entry: the last one counts
abbrev pub with_continuation : FieldForm → Option TypeIndex → Option TypeIndex
with_continuation (Field form) continuation = continuation
with_continuation (Continuation index) continuation = Some index
with_continuation Padding continuation = continuation

-- The members that are known so far, and those in the bytes, to their end. Each entry takes a byte
-- at least.
unfoldable pub fields_within : ℕ → List PlainForm → Option TypeIndex → List ℕ
    → Result TypeForm Fault
fields_within steps fields continuation [] = Ok (forms.FieldList fields continuation)
fields_within zero fields continuation (b ∷ bytes) = Ok (forms.FieldList fields continuation)
fields_within (suc steps) fields continuation (b ∷ bytes) = do
  next ← field_at (b ∷ bytes)
  fields_within steps (with_field next.0 fields) (with_continuation next.0 continuation) next.1

-- LF_FIELDLIST: the members in the bytes, to their end, and the list that continues them
abbrev pub field_list_of : List ℕ → Result TypeForm Fault
field_list_of bytes = fields_within (length bytes) [] None bytes

-- ---- a type's record

-- the form of the bytes after a leaf: a list of members (LF_FIELDLIST), or another type
unfoldable pub type_form_behind : ℕ → List ℕ → Result TypeForm Fault
type_form_behind leaf bytes =
    if leaf == 0x1203 then field_list_of bytes  -- LF_FIELDLIST
    else (plain_at leaf bytes >>= λ form. Ok (forms.Plain form.0))

-- the form of a type's record, from its bytes
unfoldable pub type_form_of : List ℕ → Result TypeForm Fault
type_form_of bytes = do
  leaf ← number_at w16 bytes
  type_form_behind leaf.0 leaf.1
