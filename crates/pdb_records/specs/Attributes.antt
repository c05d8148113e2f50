-- Attributes of types, members and pointers: bits of a number, the lowest counted as bit 0. The
-- bits are those of CV_prop_t, CV_fldattr_t, CV_funcattr_t and lfPointer in microsoft-pdb's
-- cvinfo.h.
use Rattle.std.specs.Prelude.{ℕ, ◌/◌, ◌%◌, ◌^◌, Bool, ◌||◌, ◌&&◌, ◌==◌, nat_le, if◌then◌else◌}
use Rattle.pdb_records.specs.declared.type_attributes.TypeProperties.{TypeProperties}
use Rattle.pdb_records.specs.declared.type_attributes.FieldAttributes.{FieldAttributes}
use Rattle.pdb_records.specs.declared.type_attributes.FunctionAttributes.{FunctionAttributes}
use Rattle.pdb_records.specs.declared.type_attributes.PointerAttributes.{PointerAttributes}
use Rattle.pdb_records.specs.declared.type_attributes.PointerKind.{PointerKind}
use Rattle.pdb_records.specs.declared.type_attributes.PointerKind.TheVariants as kinds
use Rattle.pdb_records.specs.declared.type_attributes.PointerMode.{PointerMode}
use Rattle.pdb_records.specs.declared.type_attributes.PointerMode.TheVariants as modes
use Rattle.pdb_container.specs.Bits.{has_bit}

-- ---- types

-- a type that is named here and defined elsewhere
abbrev pub is_forward : TypeProperties → Bool
is_forward p = has_bit p.0 0x80

-- a type with a unique name beside its name
abbrev pub names_unique : TypeProperties → Bool
names_unique p = has_bit p.0 0x200

-- ---- members and functions

-- a virtual method that is the first of its name: bits 2 to 4 are 4 or 6
abbrev pub introduces : FieldAttributes → Bool
introduces a = a.0 / 2 ^ 2 % 8 == 4 || a.0 / 2 ^ 2 % 8 == 6

-- a constructor of a class: bit 9
abbrev pub constructs : FunctionAttributes → Bool
constructs a = has_bit a.0 0x200

-- ---- pointers: bits 0 to 4 are the kind, 5 to 7 the mode, 13 to 18 the size

-- the number of a pointer's kind: bits 0 to 4
abbrev pub kind_number : PointerAttributes → ℕ
kind_number a = a.0 % 32

-- the number of a pointer's mode: bits 5 to 7
abbrev pub mode_number : PointerAttributes → ℕ
mode_number a = a.0 / 2 ^ 5 % 8

-- the kind and the mode are known
abbrev pub is_known_pointer : PointerAttributes → Bool
is_known_pointer a = nat_le (kind_number a) 0xc && nat_le (mode_number a) 4

-- a pointer to a member or a method
abbrev pub is_to_member : PointerAttributes → Bool
is_to_member a = mode_number a == 2 || mode_number a == 3

-- the kind of a pointer, by its number
abbrev pub kind_numbered : ℕ → PointerKind
kind_numbered n =
    if n == 0 then kinds.Near16
    else (if n == 1 then kinds.Far16
    else (if n == 2 then kinds.Huge16
    else (if n == 3 then kinds.BaseSeg
    else (if n == 4 then kinds.BaseVal
    else (if n == 5 then kinds.BaseSegVal
    else (if n == 6 then kinds.BaseAddr
    else (if n == 7 then kinds.BaseSegAddr
    else (if n == 8 then kinds.BaseType
    else (if n == 9 then kinds.BaseSelf
    else (if n == 0xa then kinds.Near32
    else (if n == 0xb then kinds.Far32
    else kinds.Ptr64)))))))))))

-- the kind of a pointer, where its number is known
abbrev pub kind_of_pointer : PointerAttributes → PointerKind
kind_of_pointer a = kind_numbered (kind_number a)

-- the mode of a pointer, by its number
abbrev pub mode_numbered : ℕ → PointerMode
mode_numbered n =
    if n == 0 then modes.Pointer
    else (if n == 1 then modes.LValueReference
    else (if n == 2 then modes.Member
    else (if n == 3 then modes.MemberFunction
    else modes.RValueReference)))

-- the mode of a pointer, where its number is known
abbrev pub mode_of_pointer : PointerAttributes → PointerMode
mode_of_pointer a = mode_numbered (mode_number a)

-- a pointer that is constant itself
abbrev pub points_constant : PointerAttributes → Bool
points_constant a = has_bit a.0 0x400

-- the size in bytes of a kind's pointers, where the pointer doesn't state it
abbrev pub size_of_kind : ℕ → ℕ
size_of_kind kind = if kind == 0xa || kind == 0xb then 4 else (if kind == 0xc then 8 else 0)

-- the size in bytes
abbrev pub size_of_pointer : PointerAttributes → ℕ
size_of_pointer a =
    if a.0 / 2 ^ 13 % 64 == 0 then size_of_kind (kind_number a)
    else a.0 / 2 ^ 13 % 64
