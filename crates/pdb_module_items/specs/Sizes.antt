-- Sizes of types in bytes.
use Rattle.std.specs.Prelude.{◌≡◌, ℕ, zero, suc, ◌+◌, ◌-◌, ◌&&◌, not, Bool, List, [], ◌∷◌, length, take}
use Rattle.std.specs.Prelude.{drop, slice_get, max, Option, None, Some, unwrap_or, Result, Ok, Err}
use Rattle.std.specs.Prelude.{if◌then◌else◌, bytes_eq}
use Rattle.std.specs.Option.{option_or}
use Rattle.pdb_container.specs.Fault as container_fault
use Rattle.pdb_container.specs.declared.variant.Variant.{Variant}
use Rattle.pdb_container.specs.declared.variant.Variant.TheVariants as variants
use Rattle.pdb_container_types.specs.Items.{Table, items_of}
use Rattle.pdb_container_types.specs.ItemType.{type_of_item}
use Rattle.pdb_records.specs.Attributes.{is_forward, size_of_pointer}
use Rattle.pdb_records.specs.Forms.{TypeForm, PlainForm, ClassForm, UnionForm, Plain, FieldList}
use Rattle.pdb_records.specs.Forms as forms
use Rattle.pdb_records.specs.declared.primitive.PrimitiveKind.{PrimitiveKind}
use Rattle.pdb_records.specs.declared.primitive.PrimitiveKind.TheVariants as kinds
use Rattle.pdb_records.specs.declared.primitive.Indirection.{Indirection}
use Rattle.pdb_resolving.specs.Cause.{Cause}
use Rattle.pdb_resolving.specs.Fault.{Fault}
use Rattle.pdb_resolving.specs.Resolving.{resolve}
use Rattle.pdb_module_items.specs.Reading.{Parts, type_in}
use Rattle.pdb_module_items.specs.declared.sizes.Stated.{Stated}
use Rattle.pdb_module_items.specs.declared.sizes.Stated.TheVariants as stated

-- ---- types without a record

-- the size of a primitive type
abbrev pub kind_bytes : PrimitiveKind → ℕ
kind_bytes kinds.NoType = 0
kind_bytes kinds.Void = 0
kind_bytes kinds.HRESULT = 4
kind_bytes kinds.Char = 1
kind_bytes kinds.UChar = 1
kind_bytes kinds.I8 = 1
kind_bytes kinds.U8 = 1
kind_bytes kinds.RChar = 1
kind_bytes kinds.WChar = 2
kind_bytes kinds.RChar16 = 2
kind_bytes kinds.RChar32 = 4
kind_bytes kinds.Char8 = 1
kind_bytes kinds.Short = 2
kind_bytes kinds.UShort = 2
kind_bytes kinds.I16 = 2
kind_bytes kinds.U16 = 2
kind_bytes kinds.Long = 4
kind_bytes kinds.ULong = 4
kind_bytes kinds.I32 = 4
kind_bytes kinds.U32 = 4
kind_bytes kinds.Quad = 8
kind_bytes kinds.UQuad = 8
kind_bytes kinds.I64 = 8
kind_bytes kinds.U64 = 8
kind_bytes kinds.Octa = 16
kind_bytes kinds.UOcta = 16
kind_bytes kinds.I128 = 16
kind_bytes kinds.U128 = 16
kind_bytes kinds.F16 = 2
kind_bytes kinds.F32 = 4
kind_bytes kinds.F32PP = 4
kind_bytes kinds.F48 = 6
kind_bytes kinds.F64 = 8
kind_bytes kinds.F80 = 10
kind_bytes kinds.F128 = 16
kind_bytes kinds.Complex32 = 8
kind_bytes kinds.Complex64 = 16
kind_bytes kinds.Complex80 = 20
kind_bytes kinds.Complex128 = 32
kind_bytes kinds.Bool8 = 1
kind_bytes kinds.Bool16 = 2
kind_bytes kinds.Bool32 = 4
kind_bytes kinds.Bool64 = 8

-- the size of a primitive type, or of a pointer of any kind to it, which has the machine's size
abbrev pub indirect_bytes : ℕ → ℕ → Option Indirection → ℕ
indirect_bytes pointer_size direct None = direct
indirect_bytes pointer_size direct (Some held) = pointer_size

-- ---- classes and unions

-- the name by which a class or a union is looked for: the unique one, if it has one
abbrev pub key_name : List ℕ → Option (List ℕ) → List ℕ
key_name name unique_name = unwrap_or unique_name name

-- the size of a definition with that name; a forward reference is none
abbrev pub size_if_defined : List ℕ → (is_forward_reference : Bool) → List ℕ → ℕ → Option ℕ
size_if_defined wanted is_forward_reference name size =
    if not is_forward_reference && bytes_eq name wanted then Some size else None

-- the size that a type states for a class or a union of that name
abbrev pub form_size : List ℕ → TypeForm → Option ℕ
form_size wanted (Plain (forms.Class t)) =
    size_if_defined wanted (is_forward t.properties) (key_name t.name t.unique_name) t.size
form_size wanted (Plain (forms.Union t)) =
    size_if_defined wanted (is_forward t.properties) (key_name t.name t.unique_name) t.size
form_size wanted t = None

-- the size that a type states, if it was read; none where it can't be read
abbrev pub defined_size : List ℕ → Result TypeForm container_fault.Fault → Option ℕ
defined_size wanted (Ok t) = form_size wanted t
defined_size wanted (Err e) = None

-- the size by the first definition of a name among records, the first of which has this index
unfoldable pub first_definition : List ℕ → ℕ → List (List ℕ) → Option ℕ
first_definition wanted index [] = None
first_definition wanted index (bytes ∷ others) =
    option_or (defined_size wanted (type_of_item index bytes))
    (first_definition wanted (index + 1) others)

-- the records that the table has, before it ends, from an index on
abbrev pub records_from : Table → ℕ → List (List ℕ)
records_from types index = drop (index - types.minimum)
    (take (types.maximum - types.minimum) (items_of types).items)

-- the first index of the table past another one
abbrev pub index_past : Table → ℕ → ℕ
index_past types index = max (index + 1) types.minimum

-- the size by the first definition of a name after an index
abbrev pub definition_behind : Table → ℕ → List ℕ → Option ℕ
definition_behind types index wanted =
    first_definition wanted (index_past types index) (records_from types (index_past types index))

-- the own size of a class or a union, or the size of its definition, where it is a forward
-- reference and there is a definition
abbrev pub aggregate_bytes : Table → ℕ → (is_forward_reference : Bool) → List ℕ → ℕ → ℕ
aggregate_bytes types index is_forward_reference name size =
    if is_forward_reference then unwrap_or (definition_behind types index name) size
    else size

-- the size of a class
abbrev pub class_bytes : Table → ℕ → ClassForm → ℕ
class_bytes types index t =
    aggregate_bytes types index (is_forward t.properties) (key_name t.name t.unique_name) t.size

-- the size of a union
abbrev pub union_bytes : Table → ℕ → UnionForm → ℕ
union_bytes types index t =
    aggregate_bytes types index (is_forward t.properties) (key_name t.name t.unique_name) t.size

-- ---- all types

-- an array's last dimension, which is that of the whole array
abbrev pub last_dimension : List ℕ → ℕ
last_dimension dimensions = unwrap_or (slice_get dimensions (length dimensions - 1)) 0

-- the size of a value's form as it is stored
abbrev pub variant_bytes : Variant → ℕ
variant_bytes (variants.U8 x) = 1
variant_bytes (variants.I8 x) = 1
variant_bytes (variants.U16 x) = 2
variant_bytes (variants.I16 x) = 2
variant_bytes (variants.U32 x) = 4
variant_bytes (variants.I32 x) = 4
variant_bytes (variants.U64 x) = 8
variant_bytes (variants.I64 x) = 8

-- The size of the type with that index in the table, where pointers have that many bytes and the
-- sizes of other types are given by their indices as the module names them.
abbrev pub form_bytes : Table → ℕ → (ℕ → ℕ) → ℕ → TypeForm → ℕ
form_bytes types pointer_size of index (Plain (forms.Primitive t)) =
    indirect_bytes pointer_size (kind_bytes t.kind) t.indirection
form_bytes types pointer_size of index (Plain (forms.MemberFunction t)) = pointer_size
form_bytes types pointer_size of index (Plain (forms.Procedure t)) = pointer_size
form_bytes types pointer_size of index (Plain (forms.Pointer t)) = size_of_pointer t.attributes
form_bytes types pointer_size of index (Plain (forms.Array t)) = last_dimension t.dimensions
form_bytes types pointer_size of index (Plain (forms.Class t)) = class_bytes types index t
form_bytes types pointer_size of index (Plain (forms.Union t)) = union_bytes types index t
form_bytes types pointer_size of index (Plain (forms.Enumeration t)) = of (t.underlying_type).0
form_bytes types pointer_size of index (Plain (forms.Modifier t)) = of (t.underlying_type).0
form_bytes types pointer_size of index (Plain (forms.Enumerate t)) = variant_bytes t.value
form_bytes types pointer_size of index t = 0

-- the size of a type that was read; 0 where it can't be read
abbrev pub read_bytes : Table → ℕ → (ℕ → ℕ) → ℕ → Result TypeForm Fault → ℕ
read_bytes types pointer_size of index (Ok t) = form_bytes types pointer_size of index t
read_bytes types pointer_size of index (Err e) = 0

-- the size of the type with an index that was resolved
abbrev pub resolved_bytes : Table → ℕ → (ℕ → ℕ) → Result ℕ Cause → ℕ
resolved_bytes types pointer_size of (Ok index) =
    read_bytes types pointer_size of index (type_in types index)
resolved_bytes types pointer_size of (Err e) = 0

-- the size of the type with an index as a module names it, in at most that many steps from type to
-- type; 0 past these steps
unfoldable pub size_within : Parts → ℕ → ℕ → ℕ → ℕ
size_within p asking zero index = 0
size_within p asking (suc steps) index = resolved_bytes p.types p.pointer_size
    (size_within p asking steps) (resolve p.modules asking index)

-- The size of the type with that index as a module names it. A type whose size leads back to itself
-- has more steps than any number.
abbrev pub size_at : Parts → ℕ → ℕ → ℕ
size_at p asking index = size_within p asking 1024 index

-- ---- sizes as they are worked out

-- the bytes of a stated size, where the sizes of other types are given
abbrev pub stated_bytes : (ℕ → ℕ) → Stated → ℕ
stated_bytes of (stated.Bytes size) = size
stated_bytes of (stated.SameAs index) = of index.0

-- The stated size is that of a type's form, whatever the sizes of other types.
abbrev pub StatesForm : Table → ℕ → ℕ → TypeForm → Stated → Type 0
StatesForm types pointer_size index t s =
    (of : ℕ → ℕ) → stated_bytes of s ≡ form_bytes types pointer_size of index t

-- the same of the type with that index in the table
abbrev pub StatesIn : Table → ℕ → ℕ → Stated → Type 0
StatesIn types pointer_size index s = (of : ℕ → ℕ)
    → stated_bytes of s ≡ read_bytes types pointer_size of index (type_in types index)

-- the same of the type with that index as a module names it
abbrev pub StatesAt : Parts → ℕ → ℕ → Stated → Type 0
StatesAt p asking index s = (of : ℕ → ℕ)
    → stated_bytes of s ≡ resolved_bytes p.types p.pointer_size of (resolve p.modules asking index)
