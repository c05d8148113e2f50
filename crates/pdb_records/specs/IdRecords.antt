-- Records of ids, by their leaves (LF_*): fields in order, and the fault of the first that can't be
-- read. The layouts are those of microsoft-pdb's cvinfo.h (LF_FUNC_ID to LF_UDT_MOD_SRC_LINE), as
-- the pdb crate reads them.
use Rattle.std.specs.Prelude.{ℕ, ◌||◌, List, Option, None, Some, Result, Ok, Err, ◌==◌}
use Rattle.std.specs.Prelude.{if◌then◌else◌}
use Rattle.std.specs.Int.{w16, w32}
use Rattle.pdb_container.specs.Fault.{Fault, UnimplementedTypeKind, ◌>>=◌}
use Rattle.pdb_container.specs.Container.{half_at, word_at}
use Rattle.pdb_container.specs.Fields.{Reader, bytes_of, number_at}
use Rattle.pdb_container.specs.declared.index.TypeIndex.{TypeIndex}
use Rattle.pdb_container.specs.declared.index.IdIndex.{IdIndex}
use Rattle.pdb_records.specs.declared.id_data.UserDefinedTypeSourceFileRef.TheVariants as files
use Rattle.pdb_records.specs.declared.id_data.UserDefinedTypeSourceId.{UserDefinedTypeSourceId}
use Rattle.pdb_records.specs.IdForms as forms
use Rattle.pdb_records.specs.IdForms.{IdForm, FunctionForm, MemberFunctionForm, StringForm}
use Rattle.pdb_container.specs.RecordFields.{type_index_at, id_index_at, name_at, many_at, as_value}

-- the id that a number names: none for 0 and for 0xffff
abbrev pub optional_id : ℕ → Option IdIndex
optional_id n = if n == 0 || n == 0xffff then None else Some record { 0 = n }

-- two numbers in four bytes each
abbrev pub two_words_at : Reader (ℕ × ℕ)
two_words_at bytes = do
  front ← bytes_of 8 bytes
  Ok ((word_at front.0 0, word_at front.0 4), front.1)

-- LF_FUNC_ID: the scope if there is one, the function's type, and the name
unfoldable pub function_id_at : ℕ → Reader FunctionForm
function_id_at leaf bytes = do
  front ← two_words_at bytes
  name ← name_at leaf front.1
  Ok (
    record {
      scope = optional_id front.0.0;
      function_type = record { 0 = front.0.1 };
      name = name.0;
    },
    name.1,
  )

-- LF_MFUNC_ID: the class, the method's type, and the name
unfoldable pub member_function_id_at : ℕ → Reader MemberFunctionForm
member_function_id_at leaf bytes = do
  front ← two_words_at bytes
  name ← name_at leaf front.1
  Ok (
    record {
      parent = record { 0 = front.0.0 };
      function_type = record { 0 = front.0.1 };
      name = name.0;
    },
    name.1,
  )

-- LF_BUILDINFO: ids of texts, after their count in two bytes
unfoldable pub build_info_at : Reader (List IdIndex)
build_info_at bytes = do
  count ← number_at w16 bytes
  many_at id_index_at count.0 count.1

-- LF_SUBSTR_LIST: indices of parts, after their count in four bytes
unfoldable pub string_list_at : Reader (List TypeIndex)
string_list_at bytes = do
  count ← number_at w32 bytes
  many_at type_index_at count.0 count.1

-- LF_STRING_ID: the list of its parts if there is one, and the text
unfoldable pub string_at : ℕ → Reader StringForm
string_at leaf bytes = do
  substrings ← number_at w32 bytes
  name ← name_at leaf substrings.1
  Ok (record { substrings = optional_id substrings.0; name = name.0 }, name.1)

-- the source of a type, by the places of its numbers: a type, the id of a file's name, and the line
abbrev pub source_in : List ℕ → UserDefinedTypeSourceId
source_in bytes = record {
  udt = record { 0 = word_at bytes 0 };
  source_file = files.Local record { 0 = word_at bytes 4 };
  line = word_at bytes 8;
}

-- LF_UDT_SRC_LINE, the source of a type: 12 bytes
unfoldable pub source_at : Reader UserDefinedTypeSourceId
source_at bytes = do
  front ← bytes_of 12 bytes
  Ok (source_in front.0, front.1)

-- The source of a type in a module, by the places of its numbers: a type, its file's offset in the
-- string table, the line, and the module's number.
abbrev pub module_source_in : List ℕ → UserDefinedTypeSourceId
module_source_in bytes = record {
  udt = record { 0 = word_at bytes 0 };
  source_file = files.Remote (half_at bytes 12) record { 0 = word_at bytes 4 };
  line = word_at bytes 8;
}

-- LF_UDT_MOD_SRC_LINE, the source of a type in a module: 14 bytes
unfoldable pub module_source_at : Reader UserDefinedTypeSourceId
module_source_at bytes = do
  front ← bytes_of 14 bytes
  Ok (module_source_in front.0, front.1)

-- the record after its leaf (LF_FUNC_ID to LF_UDT_MOD_SRC_LINE), and the bytes after it
abbrev pub id_at : ℕ → Reader IdForm
id_at leaf bytes =
    if leaf == 0x1601 then  -- LF_FUNC_ID
    as_value forms.Function (function_id_at leaf bytes)
    else (if leaf == 0x1602 then  -- LF_MFUNC_ID
    as_value forms.MemberFunction (member_function_id_at leaf bytes)
    else (if leaf == 0x1603 then  -- LF_BUILDINFO
    as_value forms.BuildInfo (build_info_at bytes)
    else (if leaf == 0x1604 then  -- LF_SUBSTR_LIST
    as_value forms.StringList (string_list_at bytes)
    else (if leaf == 0x1605 then  -- LF_STRING_ID
    as_value forms.String (string_at leaf bytes)
    else (if leaf == 0x1606 then  -- LF_UDT_SRC_LINE
    as_value forms.UserDefinedTypeSource (source_at bytes)
    else (if leaf == 0x1607 then  -- LF_UDT_MOD_SRC_LINE
    as_value forms.UserDefinedTypeSource (module_source_at bytes)
    else Err (UnimplementedTypeKind leaf)))))))

-- the form of the bytes after a leaf
unfoldable pub id_form_behind : ℕ → List ℕ → Result IdForm Fault
id_form_behind leaf bytes = id_at leaf bytes >>= λ form. Ok form.0

-- the form of an id's record, from its bytes
unfoldable pub id_form_of : List ℕ → Result IdForm Fault
id_form_of bytes = do
  leaf ← number_at w16 bytes
  id_form_behind leaf.0 leaf.1
