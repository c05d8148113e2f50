-- A module's own stream: its symbols, and its line data with their subsections.
-- The layout is that of LLVM's The Module Information Stream, as the pdb crate reads it.
use Rattle.std.specs.Prelude.{ℕ, ◌+◌, List, [], ◌∷◌, length, take, drop, nat_lt, ◌==◌, not, Option}
use Rattle.std.specs.Prelude.{None, Some, Result, Ok, Err, codes}
use Rattle.std.specs.Int.{w32}
use Rattle.pdb_container.specs.Fault.{Fault, UnexpectedEof, UnimplementedFeature, ◌>>=◌, refuse}
use Rattle.pdb_container.specs.Fields.{number_at}
use Rattle.pdb_container.specs.Listing.{Listing, ending}
use Rattle.pdb_subsections.specs.Exports.{Entry, exports_of}
use Rattle.pdb_subsections.specs.Imports.{Import, imports_of}
use Rattle.pdb_lines.specs.Inlinees.{InlinedFunction, inlinees_of}
use Rattle.pdb_lines.specs.LinesSubsections.{Program, program_of}
use Rattle.pdb_subsections.specs.Subsections.{inlinees_kind, imports_kind, exports_kind}
use Rattle.pdb_subsections.specs.Subsections.{subsections_of, first_of}
use Rattle.pdb_symbol_records.specs.Iteration.{SymbolIteration, iteration_at}

-- the stream's bytes, and the sizes of its parts: symbols, line data in an older form, line data
pub record ModuleStream : Type 0 where
  pub bytes : List ℕ
  pub symbols_size : ℕ
  pub c11_lines_size : ℕ
  pub c13_lines_size : ℕ

-- the stream's bytes with the sizes of its parts
abbrev pub with_parts : List ℕ → ℕ → ℕ → ℕ → ModuleStream
with_parts bytes symbols_size c11_lines_size c13_lines_size = record {
  bytes = bytes;
  symbols_size = symbols_size;
  c11_lines_size = c11_lines_size;
  c13_lines_size = c13_lines_size;
}

-- ---- symbols

-- bytes that begin with the signature of symbols; an empty list needs no signature
unfoldable pub signed : List ℕ → Result (List ℕ) Fault
signed [] = Ok []
signed (b ∷ bytes) = do
  signature ← number_at w32 (b ∷ bytes)
  known ← refuse (not (signature.0 == 4)) (UnimplementedFeature (codes "symbol signature"))
  Ok (b ∷ bytes)

-- the list of symbols: the first bytes of the stream, with the signature
unfoldable pub symbol_list_bytes : ModuleStream → Result (List ℕ) Fault
symbol_list_bytes m = do
  whole ← refuse (nat_lt (length m.bytes) m.symbols_size) UnexpectedEof
  signed (take m.symbols_size m.bytes)

-- the symbols from a place on
abbrev pub iteration_in : ModuleStream → ℕ → Result SymbolIteration Fault
iteration_in m place = symbol_list_bytes m >>= λ bytes. Ok (iteration_at bytes place)

-- ---- line data

-- the line data after the symbols; line data in the older form are refused
unfoldable pub line_data_in : ModuleStream → Result (List ℕ) Fault
line_data_in m = do
  plain ← refuse (nat_lt 0 m.c11_lines_size) (UnimplementedFeature (codes "C11 line programs"))
  whole ← refuse (nat_lt (length m.bytes) (m.symbols_size + m.c13_lines_size)) UnexpectedEof
  Ok (take m.c13_lines_size (drop m.symbols_size m.bytes))

-- the line program of a module: its subsections of lines (DEBUG_S_LINES) and its checksums
unfoldable pub line_program_in : ModuleStream → Result Program Fault
line_program_in m = do
  bytes ← line_data_in m
  program_of bytes

-- the first subsection of a kind
unfoldable pub subsection_in : ModuleStream → ℕ → Result (Option (List ℕ)) Fault
subsection_in m kind = do
  bytes ← line_data_in m
  first_of kind (subsections_of bytes)

-- the reading of the first subsection of a kind, or another value where there is none
abbrev pub said_or : {A : Type 0} → A → (List ℕ → Result A Fault) → Option (List ℕ) → Result A Fault
said_or other read None = Ok other
said_or other read (Some bytes) = read bytes

-- the inlined functions of a module (DEBUG_S_INLINEELINES), and the end of their list
unfoldable pub inlinees_in : ModuleStream → Result (Listing InlinedFunction) Fault
inlinees_in m = do
  found ← subsection_in m inlinees_kind
  said_or (ending None) inlinees_of found

-- the imports of a module (DEBUG_S_CROSSSCOPEIMPORTS)
unfoldable pub imports_in : ModuleStream → Result (List Import) Fault
imports_in m = do
  found ← subsection_in m imports_kind
  said_or [] imports_of found

-- the exports of a module (DEBUG_S_CROSSSCOPEEXPORTS)
unfoldable pub exports_in : ModuleStream → Result (List Entry) Fault
exports_in m = do
  found ← subsection_in m exports_kind
  said_or [] exports_of found
