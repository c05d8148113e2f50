-- The form of a symbol: its fields, with the bytes of its name instead of a reference to them.
use Rattle.std.specs.Prelude.{ℕ, List, Bool, Option}
use Rattle.pdb_container.specs.RawString.{raw_bytes}
use Rattle.pdb_container.specs.declared.index.IdIndex.{IdIndex}
use Rattle.pdb_container.specs.declared.index.TypeIndex.{TypeIndex}
use Rattle.pdb_addresses.specs.declared.internal_section_offset.PdbInternalSectionOffset.{
  PdbInternalSectionOffset,
}
use Rattle.pdb_container.specs.declared.index_numbers.SymbolIndex.{SymbolIndex}
use Rattle.pdb_symbol_records.specs.Annotations.{annotation_bytes}
use Rattle.pdb_symbol_records.specs.declared.inline_site.InlineSiteSymbol.{InlineSiteSymbol}
use Rattle.pdb_symbol_records.specs.declared.symbol_data.PublicSymbol.{PublicSymbol}
use Rattle.pdb_symbol_records.specs.declared.symbol_data.ProcedureSymbol.{ProcedureSymbol}
use Rattle.pdb_symbol_records.specs.declared.symbol_data.ThunkSymbol.{ThunkSymbol}
use Rattle.pdb_symbol_records.specs.declared.symbol_data.SeparatedCodeSymbol.{SeparatedCodeSymbol}
use Rattle.pdb_symbol_records.specs.declared.symbol_data.SymbolData.{SymbolData}
use Rattle.pdb_symbol_records.specs.declared.symbol_data.SymbolData.TheVariants as symbols

-- a public symbol (S_PUB32): flags, the place that it names, and its name
pub record PublicForm : Type 0 where
  pub code : Bool
  pub function : Bool
  pub managed : Bool
  pub msil : Bool
  pub offset : PdbInternalSectionOffset
  pub name : List ℕ

-- a procedure (S_GPROC32, S_LPROC32 and their like); its length and its debug offsets are in bytes
pub record ProcedureForm : Type 0 where
  pub global : Bool
  pub dpc : Bool
  pub parent : Option SymbolIndex
  pub end : SymbolIndex
  pub next : Option SymbolIndex
  pub len : ℕ
  pub dbg_start_offset : ℕ
  pub dbg_end_offset : ℕ
  pub type_index : TypeIndex
  pub offset : PdbInternalSectionOffset
  pub flags : ℕ
  pub name : List ℕ

-- a thunk (S_THUNK32), code that only leads to other code; its length in bytes
pub record ThunkForm : Type 0 where
  pub parent : Option SymbolIndex
  pub end : SymbolIndex
  pub next : Option SymbolIndex
  pub offset : PdbInternalSectionOffset
  pub len : ℕ
  pub kind : ℕ
  pub name : List ℕ

-- an inlined call (S_INLINESITE, S_INLINESITE2), with the bytes of its annotations
pub record InlineSiteForm : Type 0 where
  pub parent : Option SymbolIndex
  pub end : SymbolIndex
  pub inlinee : IdIndex
  pub invocations : Option ℕ
  pub annotations : List ℕ

-- the form of a symbol
pub data SymbolForm : Type 0 where
  Public : PublicForm → SymbolForm
  Procedure : ProcedureForm → SymbolForm
  Thunk : ThunkForm → SymbolForm
  SeparatedCode : SeparatedCodeSymbol → SymbolForm
  InlineSite : InlineSiteForm → SymbolForm
  ScopeEnd : SymbolForm
  ProcedureEnd : SymbolForm
  InlineSiteEnd : SymbolForm

-- the form of a public symbol's value
abbrev pub public_form : PublicSymbol → PublicForm
public_form s =
    record {
      code = s.code;
      function = s.function;
      managed = s.managed;
      msil = s.msil;
      offset = s.offset;
      name = raw_bytes s.name;
    }

-- the form of a procedure's value
abbrev pub procedure_form : ProcedureSymbol → ProcedureForm
procedure_form s =
    record {
      global = s.global;
      dpc = s.dpc;
      parent = s.parent;
      end = s.end;
      next = s.next;
      len = s.len;
      dbg_start_offset = s.dbg_start_offset;
      dbg_end_offset = s.dbg_end_offset;
      type_index = s.type_index;
      offset = s.offset;
      flags = s.flags;
      name = raw_bytes s.name;
    }

-- the form of a thunk's value
abbrev pub thunk_form : ThunkSymbol → ThunkForm
thunk_form s =
    record {
      parent = s.parent;
      end = s.end;
      next = s.next;
      offset = s.offset;
      len = s.len;
      kind = s.kind;
      name = raw_bytes s.name;
    }

-- the form of an inlined call's value
abbrev pub inline_site_form : InlineSiteSymbol → InlineSiteForm
inline_site_form s =
    record {
      parent = s.parent;
      end = s.end;
      inlinee = s.inlinee;
      invocations = s.invocations;
      annotations = annotation_bytes s.annotations;
    }

-- the form of a symbol's value
abbrev pub symbol_form : SymbolData → SymbolForm
symbol_form (symbols.Public s) = Public (public_form s)
symbol_form (symbols.Procedure s) = Procedure (procedure_form s)
symbol_form (symbols.Thunk s) = Thunk (thunk_form s)
symbol_form (symbols.SeparatedCode s) = SeparatedCode s
symbol_form (symbols.InlineSite s) = InlineSite (inline_site_form s)
symbol_form symbols.ScopeEnd = ScopeEnd
symbol_form symbols.ProcedureEnd = ProcedureEnd
symbol_form symbols.InlineSiteEnd = InlineSiteEnd
