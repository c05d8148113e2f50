-- Names of types without a record, keywords before names, and names of ids.
use Rattle.std.specs.Prelude.{ℕ, ◌^◌, Bool, ◌&&◌, not, List, [], ◌∷◌}
use Rattle.std.specs.Prelude.{◌++◌, length, drop, codes, Option, Some, None, if◌then◌else◌, ◌==◌}
use Rattle.std.specs.Prelude.{nat_lt}
use Rattle.std.specs.Char.{is_digit}
use Rattle.std.specs.List.{list_all, starts_with}
use Rattle.std.specs.Str.Parse.{digits_value, without_leading_plus}
use Rattle.std.specs.Str.Lossy.{utf8_lossy}
use Rattle.pdb_container.specs.Bits.{has_bit}
use Rattle.pdb_records.specs.declared.primitive.PrimitiveKind.{PrimitiveKind}
use Rattle.pdb_records.specs.declared.primitive.PrimitiveKind.TheVariants as kinds
use Rattle.pdb_records.specs.declared.primitive.PrimitiveType.{PrimitiveType}
use Rattle.pdb_records.specs.declared.primitive.Indirection.{Indirection}
use Rattle.pdb_records.specs.declared.type_data.ClassKind.{ClassKind}
use Rattle.pdb_records.specs.declared.type_data.ClassKind.TheVariants as classes
use Rattle.pdb_type_printing.specs.Printed.{Text, Printed, Done, ◌>>=◌, say}

-- ---- types without a record

-- the name of a kind
abbrev pub primitive_name : PrimitiveKind → Text
primitive_name kinds.NoType = codes "<NoType>"
primitive_name kinds.Void = codes "void"
primitive_name kinds.HRESULT = codes "HRESULT"
primitive_name kinds.Char = codes "signed char"
primitive_name kinds.UChar = codes "unsigned char"
primitive_name kinds.I8 = codes "int8_t"
primitive_name kinds.U8 = codes "uint8_t"
primitive_name kinds.RChar = codes "char"
primitive_name kinds.WChar = codes "wchar_t"
primitive_name kinds.RChar16 = codes "char16_t"
primitive_name kinds.RChar32 = codes "char32_t"
primitive_name kinds.Char8 = codes "char8_t"
primitive_name kinds.Short = codes "short"
primitive_name kinds.UShort = codes "unsigned short"
primitive_name kinds.I16 = codes "int16_t"
primitive_name kinds.U16 = codes "uint16_t"
primitive_name kinds.Long = codes "long"
primitive_name kinds.ULong = codes "unsigned long"
primitive_name kinds.I32 = codes "int"
primitive_name kinds.U32 = codes "unsigned int"
primitive_name kinds.Quad = codes "long long"
primitive_name kinds.UQuad = codes "unsigned long long"
primitive_name kinds.I64 = codes "int64_t"
primitive_name kinds.U64 = codes "uint64_t"
primitive_name kinds.Octa = codes "int128_t"
primitive_name kinds.UOcta = codes "uint128_t"
primitive_name kinds.I128 = codes "int128_t"
primitive_name kinds.U128 = codes "uint128_t"
primitive_name kinds.F16 = codes "float16_t"
primitive_name kinds.F32 = codes "float"
primitive_name kinds.F32PP = codes "float"
primitive_name kinds.F48 = codes "float48_t"
primitive_name kinds.F64 = codes "double"
primitive_name kinds.F80 = codes "long double"
primitive_name kinds.F128 = codes "long double"
primitive_name kinds.Complex32 = codes "complex<float>"
primitive_name kinds.Complex64 = codes "complex<double>"
primitive_name kinds.Complex80 = codes "complex<long double>"
primitive_name kinds.Complex128 = codes "complex<long double>"
primitive_name kinds.Bool8 = codes "bool"
primitive_name kinds.Bool16 = codes "bool16_t"
primitive_name kinds.Bool32 = codes "bool32_t"
primitive_name kinds.Bool64 = codes "bool64_t"

-- a kind that is meant itself, or to which a pointer leads; `const` is said of the kind then
abbrev pub direct_or_behind_pointer : ℕ → Bool → Text → Option Indirection → Text
direct_or_behind_pointer flags constant name None =
    if constant then codes "const " ++ name
    else name
direct_or_behind_pointer flags constant name (Some pointer) =
    name ++ ((if constant then codes " const" else [])
    ++ (if has_bit flags 8 then codes " *" else codes "*"))

-- a type without a record, printed as constant or not
abbrev pub primitive_text : ℕ → Bool → PrimitiveType → Text
primitive_text flags constant t = direct_or_behind_pointer flags constant (primitive_name t.kind)
    t.indirection

-- ---- types with a name

-- the keyword before the name of a class
abbrev pub class_word : ClassKind → Text
class_word classes.Class = codes "class "
class_word classes.Struct = codes "struct "
class_word classes.Interface = codes "interface "

-- a name after its keyword, which flag 16 (NAME_ONLY) leaves out
abbrev pub named : ℕ → Text → List ℕ → Text → Printed
named flags word name w = (if has_bit flags 16 then Done w else say word w)
    >>= say (utf8_lossy name)

-- ---- functions and ids

-- the name of a function
abbrev pub name_or_omitted : Text → Text
name_or_omitted [] = codes "<name omitted>"
name_or_omitted (b ∷ bytes) = b ∷ bytes

-- one hexadecimal digit or more, of a value of 32 bits
abbrev pub is_number : List ℕ → Bool
is_number digits = not (length digits == 0) && list_all (λ b. is_digit b 16) digits
    && nat_lt (digits_value 16 digits) (2 ^ 32)

-- a namespace without a name of its own: `?A0x`, and a number, with a plus before it or not
abbrev pub is_anonymous_namespace : Text → Bool
is_anonymous_namespace name = starts_with (λ a b. a == b) name (codes "?A0x")
    && is_number (without_leading_plus (drop 4 name))

-- the text of a string
abbrev pub string_text : Text → Text
string_text name = if is_anonymous_namespace name then codes "`anonymous namespace'" else name
