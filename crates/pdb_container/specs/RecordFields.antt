-- Fields of records: each is a value and the bytes after it, or the fault of what is missing.
-- Numeric leaves and names are those of microsoft-pdb's cvinfo.h and of LLVM's CodeView Type
-- Records.
use Rattle.std.specs.Prelude.{ℕ, List, Ok, Err, nat_lt, ◌==◌}
use Rattle.std.specs.Prelude.{if◌then◌else◌, Result, zero, suc, [], ◌∷◌}
use Rattle.std.specs.Int.{w8, w16, w32, w64}
use Rattle.pdb_container.specs.declared.error.Error.{Error}
use Rattle.pdb_container.specs.Fault.{Fault, UnexpectedNumericPrefix, ◌>>=◌, Gives}
use Rattle.pdb_container.specs.Fields.{Reader, number_at, signed_at, c_string_at, pascal_string_at}
use Rattle.pdb_container.specs.declared.index.TypeIndex.{TypeIndex}
use Rattle.pdb_container.specs.declared.index.IdIndex.{IdIndex}
use Rattle.pdb_container.specs.declared.variant.Variant.{Variant}
use Rattle.pdb_container.specs.declared.variant.Variant.TheVariants as variants

-- A call returned the reading's value or fault and advanced past it, unless memory was short.
abbrev pub GivesFront : {X Y : Type 0} → (X → Y) → Result X Error → List ℕ
    → Result (Y × List ℕ) Fault → Type 0
GivesFront view result new read = Gives (λ x. (view x, new)) ⊥ result read

-- ---- indices

-- the index of a type, 4 bytes
unfoldable pub type_index_at : Reader TypeIndex
type_index_at bytes = do
  n ← number_at w32 bytes
  Ok (record { 0 = n.0 }, n.1)

-- the index of an id, 4 bytes
unfoldable pub id_index_at : Reader IdIndex
id_index_at bytes = do
  n ← number_at w32 bytes
  Ok (record { 0 = n.0 }, n.1)

-- ---- numbers that say their own width

-- an unsigned number by its prefix: the prefix itself below 0x8000, or what follows it
abbrev pub numeric_behind : ℕ → Reader ℕ
numeric_behind prefix bytes =
    if nat_lt prefix 0x8000 then Ok (prefix, bytes)
    else (if prefix == 0x8000 then number_at w8 bytes
    else (if prefix == 0x8002 then number_at w16 bytes
    else (if prefix == 0x8004 then number_at w32 bytes
    else (if prefix == 0x800a then number_at w64 bytes
    else Err (UnexpectedNumericPrefix prefix)))))

-- an unsigned number that says its own width (LF_CHAR, LF_USHORT, LF_ULONG, LF_UQUADWORD)
unfoldable pub numeric_at : Reader ℕ
numeric_at bytes = do
  prefix ← number_at w16 bytes
  numeric_behind prefix.0 prefix.1

-- a field that was read, converted to another kind of value
abbrev pub as_value : {A B : Type 0} → (A → B) → Result (A × List ℕ) Fault
    → Result (B × List ℕ) Fault
as_value make read = read >>= λ x. Ok (make x.0, x.1)

-- a number with its width by its prefix, signed or not: the prefix itself below 0x8000, or what
-- follows it
abbrev pub variant_behind : ℕ → Reader Variant
variant_behind prefix bytes =
    if nat_lt prefix 0x8000 then Ok (variants.U16 prefix, bytes)
    else (if prefix == 0x8000 then as_value variants.U8 (number_at w8 bytes)
    else (if prefix == 0x8001 then as_value variants.I16 (signed_at w16 bytes)
    else (if prefix == 0x8002 then as_value variants.U16 (number_at w16 bytes)
    else (if prefix == 0x8003 then as_value variants.I32 (signed_at w32 bytes)
    else (if prefix == 0x8004 then as_value variants.U32 (number_at w32 bytes)
    else (if prefix == 0x8009 then as_value variants.I64 (signed_at w64 bytes)
    else (if prefix == 0x800a then as_value variants.U64 (number_at w64 bytes)
    else Err (UnexpectedNumericPrefix prefix))))))))

-- a number of the width that it states, signed or not (LF_CHAR to LF_UQUADWORD)
unfoldable pub variant_at : Reader Variant
variant_at bytes = do
  prefix ← number_at w16 bytes
  variant_behind prefix.0 prefix.1

-- ---- names

-- a name: a C string in the records of leaves above 0x1500, otherwise a Pascal string
unfoldable pub name_at : ℕ → Reader (List ℕ)
name_at leaf bytes = if nat_lt 0x1500 leaf then c_string_at bytes else pascal_string_at bytes

-- ---- lists

-- that many values, one after another
unfoldable pub many_at : {A : Type 0} → Reader A → ℕ → Reader (List A)
many_at one zero bytes = Ok ([], bytes)
many_at one (suc n) bytes = do
  first ← one bytes
  others ← many_at one n first.1
  Ok (first.0 ∷ others.0, others.1)
