-- CodeView symbols by their kinds (S_*): fields in order, and the fault of the first that can't be
-- read. The layouts are those of microsoft-pdb's cvinfo.h and of LLVM's CodeView Symbol Records.
use Rattle.std.specs.Prelude.{ℕ, List, Option, Some, None, Result, Ok, Err, length, drop}
use Rattle.std.specs.Prelude.{slice_index, nat_lt, ◌==◌, if◌then◌else◌}
use Rattle.pdb_container.specs.Fault.{Fault, UnexpectedEof, UnimplementedSymbolKind, ◌>>=◌, refuse}
use Rattle.pdb_container.specs.Container.{half_at, word_at}
use Rattle.pdb_container.specs.Fields.{Reader, c_string_at, pascal_string_at}
use Rattle.pdb_container.specs.Bits.{has_bit}
use Rattle.pdb_container.specs.declared.index_numbers.SymbolIndex.{SymbolIndex}
use Rattle.pdb_symbol_records.specs.declared.symbol_data.SeparatedCodeSymbol.{SeparatedCodeSymbol}
use Rattle.pdb_symbol_records.specs.Forms as forms
use Rattle.pdb_symbol_records.specs.Forms.{PublicForm, ProcedureForm, ThunkForm, InlineSiteForm}
use Rattle.pdb_symbol_records.specs.Forms.{SymbolForm}
use Rattle.pdb_symbol_records.specs.Kinds.{is_public, is_global, is_dpc, is_procedure, is_thunk}
use Rattle.pdb_symbol_records.specs.Kinds.{is_separated_code, is_inline_site}
use Rattle.pdb_symbol_records.specs.Symbols.{Symbol, kind_of, payload_of}

-- ---- fields

-- the index that a number names, none for 0
abbrev pub index_of : ℕ → Option SymbolIndex
index_of n = if n == 0 then None else Some record { 0 = n }

-- a name: a C string, but for the older kinds a Pascal string
unfoldable pub symbol_name_at : ℕ → Reader (List ℕ)
symbol_name_at kind bytes = if nat_lt kind 0x1100 then pascal_string_at bytes else c_string_at bytes

-- the name after that many bytes, which are all there
unfoldable pub name_behind : ℕ → ℕ → List ℕ → Result (List ℕ) Fault
name_behind kind front bytes = do
  whole ← refuse (nat_lt (length bytes) front) UnexpectedEof
  name ← symbol_name_at kind (drop front bytes)
  Ok name.0

-- ---- forms

-- the form of a public symbol, by the places of the numbers in the bytes before its name: flags,
-- and a place
abbrev pub public_in : List ℕ → List ℕ → PublicForm
public_in bytes name = record {
  code = has_bit (word_at bytes 0) 1;
  function = has_bit (word_at bytes 0) 2;
  managed = has_bit (word_at bytes 0) 4;
  msil = has_bit (word_at bytes 0) 8;
  offset = record { offset = word_at bytes 4; section = half_at bytes 8 };
  name = name;
}

-- S_PUB32: 10 bytes, and a name
unfoldable pub public_of : ℕ → List ℕ → Result PublicForm Fault
public_of kind bytes = do
  name ← name_behind kind 10 bytes
  Ok (public_in bytes name)

-- The form of a procedure, from its kind and by the places of the numbers in the bytes before its
-- name: indices, length, debug offsets, type, place, and flags.
abbrev pub procedure_in : ℕ → List ℕ → List ℕ → ProcedureForm
procedure_in kind bytes name = record {
  global = is_global kind;
  dpc = is_dpc kind;
  parent = index_of (word_at bytes 0);
  end = record { 0 = word_at bytes 4 };
  next = index_of (word_at bytes 8);
  len = word_at bytes 12;
  dbg_start_offset = word_at bytes 16;
  dbg_end_offset = word_at bytes 20;
  type_index = record { 0 = word_at bytes 24 };
  offset = record { offset = word_at bytes 28; section = half_at bytes 32 };
  flags = slice_index bytes 34;
  name = name;
}

-- S_GPROC32, S_LPROC32 and their like: 35 bytes, and a name
unfoldable pub procedure_symbol_at : ℕ → List ℕ → Result ProcedureForm Fault
procedure_symbol_at kind bytes = do
  name ← name_behind kind 35 bytes
  Ok (procedure_in kind bytes name)

-- The form of a thunk, by the places of the numbers in the bytes before its name: indices, a place,
-- the length in bytes, and the kind of thunk.
abbrev pub thunk_in : List ℕ → List ℕ → ThunkForm
thunk_in bytes name = record {
  parent = index_of (word_at bytes 0);
  end = record { 0 = word_at bytes 4 };
  next = index_of (word_at bytes 8);
  offset = record { offset = word_at bytes 12; section = half_at bytes 16 };
  len = half_at bytes 18;
  kind = slice_index bytes 20;
  name = name;
}

-- S_THUNK32: 21 bytes, and a name
unfoldable pub thunk_of : ℕ → List ℕ → Result ThunkForm Fault
thunk_of kind bytes = do
  name ← name_behind kind 21 bytes
  Ok (thunk_in bytes name)

-- Separated code, by the places of its numbers: indices, the length, flags, and two places, of
-- which both offsets stand before both sections.
abbrev pub separated_code_in : List ℕ → SeparatedCodeSymbol
separated_code_in bytes = record {
  parent = index_of (word_at bytes 0);
  end = record { 0 = word_at bytes 4 };
  len = word_at bytes 8;
  flags = word_at bytes 12;
  offset = record { offset = word_at bytes 16; section = half_at bytes 24 };
  parent_offset = record { offset = word_at bytes 20; section = half_at bytes 26 };
}

-- S_SEPCODE: 28 bytes, which are all there
unfoldable pub separated_code_of : List ℕ → Result SeparatedCodeSymbol Fault
separated_code_of bytes = do
  whole ← refuse (nat_lt (length bytes) 28) UnexpectedEof
  Ok (separated_code_in bytes)

-- the number of bytes of an inlined call before its annotations: S_INLINESITE2 has 4 more
abbrev pub inline_site_front : ℕ → ℕ
inline_site_front kind = if kind == 0x115d then 16 else 12

-- the number of invocations of an inlined call, which S_INLINESITE2 alone states
abbrev pub invocations_in : ℕ → List ℕ → Option ℕ
invocations_in kind bytes = if kind == 0x115d then Some (word_at bytes 12) else None

-- The form of an inlined call, by the places of its numbers: indices, the inlinee, the number of
-- invocations, and the annotations, which go to the record's end.
abbrev pub inline_site_in : ℕ → List ℕ → InlineSiteForm
inline_site_in kind bytes = record {
  parent = index_of (word_at bytes 0);
  end = record { 0 = word_at bytes 4 };
  inlinee = record { 0 = word_at bytes 8 };
  invocations = invocations_in kind bytes;
  annotations = drop (inline_site_front kind) bytes;
}

-- S_INLINESITE, S_INLINESITE2: the bytes before the annotations are all there
unfoldable pub inline_site_of : ℕ → List ℕ → Result InlineSiteForm Fault
inline_site_of kind bytes = do
  whole ← refuse (nat_lt (length bytes) (inline_site_front kind)) UnexpectedEof
  Ok (inline_site_in kind bytes)

-- ---- the form of a kind

-- a form that was read, as the form of a symbol
abbrev pub as_form : {A : Type 0} → (A → SymbolForm) → Result A Fault → Result SymbolForm Fault
as_form make read = read >>= λ form. Ok (make form)

-- the end of a scope (S_END, S_PROC_ID_END, S_INLINESITE_END), which has no fields
unfoldable pub end_form : ℕ → Result SymbolForm Fault
end_form kind =
    if kind == 0x0006 then Ok forms.ScopeEnd
    else (if kind == 0x114f then Ok forms.ProcedureEnd
    else (if kind == 0x114e then Ok forms.InlineSiteEnd
    else Err (UnimplementedSymbolKind kind)))

-- the form of a symbol of a kind, from the bytes after the kind
unfoldable pub form_of : ℕ → List ℕ → Result SymbolForm Fault
form_of kind bytes =
    if is_public kind then as_form forms.Public (public_of kind bytes)
    else (if is_procedure kind then as_form forms.Procedure (procedure_symbol_at kind bytes)
    else (if is_thunk kind then as_form forms.Thunk (thunk_of kind bytes)
    else (if is_separated_code kind then as_form forms.SeparatedCode (separated_code_of bytes)
    else (if is_inline_site kind then as_form forms.InlineSite (inline_site_of kind bytes)
    else end_form kind))))

-- the form of a symbol, from its bytes
unfoldable pub symbol_form_of : Symbol → Result SymbolForm Fault
symbol_form_of s = form_of (kind_of s) (payload_of s)
