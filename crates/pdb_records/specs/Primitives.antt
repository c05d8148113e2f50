-- Primitive types, which have no record: the low byte of their index says the kind, the bits above
-- the indirection. The numbers are TYPE_ENUM_e of microsoft-pdb's cvinfo.h, which LLVM's The PDB
-- TPI and IPI Streams describes.
use Rattle.std.specs.Prelude.{ℕ, ◌/◌, ◌%◌, Option, Some, None, Result, Ok, Err, ◌==◌, if◌then◌else◌}
use Rattle.pdb_container.specs.Fault.{Fault, TypeNotFound, ◌>>=◌}
use Rattle.pdb_records.specs.declared.primitive.PrimitiveKind.{PrimitiveKind}
use Rattle.pdb_records.specs.declared.primitive.PrimitiveKind.TheVariants as kinds
use Rattle.pdb_records.specs.declared.primitive.Indirection.{Indirection}
use Rattle.pdb_records.specs.declared.primitive.Indirection.TheVariants as pointers
use Rattle.pdb_records.specs.declared.primitive.PrimitiveType.{PrimitiveType}
use Rattle.pdb_records.specs.Forms as forms
use Rattle.pdb_records.specs.Forms.{TypeForm}

-- the indirection with a number: 0 is the type itself, past 7 there is none
unfoldable pub pointer_numbered : ℕ → Option (Option Indirection)
pointer_numbered n =
    if n == 0 then Some None
    else (if n == 1 then Some (Some pointers.Near16)
    else (if n == 2 then Some (Some pointers.Far16)
    else (if n == 3 then Some (Some pointers.Huge16)
    else (if n == 4 then Some (Some pointers.Near32)
    else (if n == 5 then Some (Some pointers.Far32)
    else (if n == 6 then Some (Some pointers.Near64)
    else (if n == 7 then Some (Some pointers.Near128)
    else None)))))))

-- kinds of characters, and of whole numbers named by their width
unfoldable pub sized_kind_numbered : ℕ → Option PrimitiveKind
sized_kind_numbered n =
    if n == 0x68 then Some kinds.I8
    else (if n == 0x69 then Some kinds.U8
    else (if n == 0x70 then Some kinds.RChar
    else (if n == 0x71 then Some kinds.WChar
    else (if n == 0x72 then Some kinds.I16
    else (if n == 0x73 then Some kinds.U16
    else (if n == 0x74 then Some kinds.I32
    else (if n == 0x75 then Some kinds.U32
    else (if n == 0x76 then Some kinds.I64
    else (if n == 0x77 then Some kinds.U64
    else (if n == 0x78 then Some kinds.I128
    else (if n == 0x79 then Some kinds.U128
    else (if n == 0x7a then Some kinds.RChar16
    else (if n == 0x7b then Some kinds.RChar32
    else (if n == 0x7c then Some kinds.Char8
    else None))))))))))))))

-- kinds of truth values, and of real and complex numbers
unfoldable pub real_kind_numbered : ℕ → Option PrimitiveKind
real_kind_numbered n =
    if n == 0x30 then Some kinds.Bool8
    else (if n == 0x31 then Some kinds.Bool16
    else (if n == 0x32 then Some kinds.Bool32
    else (if n == 0x33 then Some kinds.Bool64
    else (if n == 0x40 then Some kinds.F32
    else (if n == 0x41 then Some kinds.F64
    else (if n == 0x42 then Some kinds.F80
    else (if n == 0x43 then Some kinds.F128
    else (if n == 0x44 then Some kinds.F48
    else (if n == 0x45 then Some kinds.F32PP
    else (if n == 0x46 then Some kinds.F16
    else (if n == 0x50 then Some kinds.Complex32
    else (if n == 0x51 then Some kinds.Complex64
    else (if n == 0x52 then Some kinds.Complex80
    else (if n == 0x53 then Some kinds.Complex128
    else sized_kind_numbered n))))))))))))))

-- kinds of no type, of nothing, of results, and of whole numbers with names such as long
unfoldable pub older_kind_numbered : ℕ → Option PrimitiveKind
older_kind_numbered n =
    if n == 0x00 then Some kinds.NoType
    else (if n == 0x03 then Some kinds.Void
    else (if n == 0x08 then Some kinds.HRESULT
    else (if n == 0x10 then Some kinds.Char
    else (if n == 0x11 then Some kinds.Short
    else (if n == 0x12 then Some kinds.Long
    else (if n == 0x13 then Some kinds.Quad
    else (if n == 0x14 then Some kinds.Octa
    else (if n == 0x20 then Some kinds.UChar
    else (if n == 0x21 then Some kinds.UShort
    else (if n == 0x22 then Some kinds.ULong
    else (if n == 0x23 then Some kinds.UQuad
    else (if n == 0x24 then Some kinds.UOcta
    else real_kind_numbered n))))))))))))

-- a primitive type from its indirection and its kind, which both have to be known
abbrev pub primitive_from : ℕ → Option (Option Indirection) → Option PrimitiveKind
    → Result PrimitiveType Fault
primitive_from index None kind = Err (TypeNotFound index)
primitive_from index (Some pointer) None = Err (TypeNotFound index)
primitive_from index (Some pointer) (Some kind) = Ok record { kind = kind; indirection = pointer }

-- the primitive type with that index: its indirection from the bits above the low byte, its kind
-- from the low byte
unfoldable pub primitive_of : ℕ → Result PrimitiveType Fault
primitive_of index = primitive_from index (pointer_numbered (index / 256))
    (older_kind_numbered (index % 256))

-- the form of the primitive type with that index
abbrev pub type_of_primitive : ℕ → Result TypeForm Fault
type_of_primitive index = primitive_of index >>= λ t. Ok (forms.Plain (forms.Primitive t))
