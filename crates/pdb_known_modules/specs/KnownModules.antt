-- The data of a module's own stream, and the line and inlined calls at a place in it.
use Rattle.std.specs.Prelude.{◌≡◌, ℕ, List, [], slice_get, Option, None, Some, option_and_then}
use Rattle.std.specs.Prelude.{Result, Ok, Err}
use Rattle.pdb_container.specs.Fault as container
use Rattle.pdb_container.specs.Fault.{◌>>=◌}
use Rattle.pdb_addresses.specs.declared.internal_section_offset.PdbInternalSectionOffset.{
  PdbInternalSectionOffset,
}
use Rattle.pdb_symbol_records.specs.Iteration.{symbols_left}
use Rattle.pdb_lines.specs.LinesSubsections.{Program}
use Rattle.pdb_lines.specs.Inlinees.{InlinedFunction}
use Rattle.pdb_symbols_modules.specs.ModuleStream.{ModuleStream, iteration_in, line_program_in}
use Rattle.pdb_symbols_modules.specs.ModuleStream.{inlinees_in}
use Rattle.pdb_module_data.specs.declared.function_rows.LineRow.{LineRow}
use Rattle.pdb_module_data.specs.declared.inlined_calls.InlinedCall.{InlinedCall}
use Rattle.pdb_module_data.specs.Procedures.{Procedure, procedures_of, over, sites_of_procedure}
use Rattle.pdb_module_data.specs.FunctionLine.{if_read, function_rows}
use Rattle.pdb_module_data.specs.Forest.{Site, SitesFault, InSymbols, Unsuccessful}
use Rattle.pdb_module_data.specs.InlinedCalls.{inlinees_by_id, call_rows, calls_over}
use Rattle.pdb_symbols_modules.specs.Modules.{Module}
use Rattle.pdb_resolving.specs.Resolving.{Provided}
use Rattle.pdb_resolving.specs.Fault.{Fault, PdbError, ProcedureInlineRangesUnsuccessful, lifted}

-- ---- a module's data

-- the stream that a provider gives of the module with that index, by its entry; none without one
abbrev pub given_if_listed :
    Provided → ℕ → Option Module → Result (Option ModuleStream) container.Fault
given_if_listed provided number None = Ok None
given_if_listed provided number (Some entry) = provided number entry

-- the stream that a provider gives of the module with that index, counted from 0; none past the
-- list
abbrev pub own_of : Provided → List Module → ℕ → Result (Option ModuleStream) container.Fault
own_of provided entries number = given_if_listed provided number (slice_get entries number)

-- a module's data: its stream, and its procedures
pub record ModuleData : Type 0 where
  pub stream : ModuleStream
  pub procedures : List Procedure

-- the data of a module's stream, whose symbols have to be there to their end
unfoldable pub data_of_stream : ModuleStream → Result ModuleData container.Fault
data_of_stream stream = do
  symbols ← iteration_in stream 4
  procedures ← procedures_of (symbols_left symbols)
  Ok record { stream = stream; procedures = procedures }

-- the data of a stream that may be there
abbrev pub data_if_there : Option ModuleStream → Option ModuleData
data_if_there None = None
data_if_there (Some stream) = if_read (data_of_stream stream)

-- The data of a module: none where it has no stream, and where its stream or its symbols can't be
-- read to the end.
abbrev pub module_data : Result (Option ModuleStream) container.Fault → Option ModuleData
module_data (Ok found) = data_if_there found
module_data (Err e) = None

-- the procedures of a module; none without data
abbrev pub procedures_in : Option ModuleData → List Procedure
procedures_in None = []
procedures_in (Some known) = known.procedures

-- the procedure with that number, if one is given
abbrev pub procedure_if_numbered : List Procedure → Option ℕ → Option Procedure
procedure_if_numbered procedures number = option_and_then (λ k. slice_get procedures k) number

-- a number, if there is one, is that of the procedure over a place
abbrev pub IsNumberOver : List Procedure → PdbInternalSectionOffset → Option ℕ → Type 0
IsNumberOver procedures place number =
    procedure_if_numbered procedures number ≡ over procedures place

-- ---- lines and inlined calls

-- the line program of a module, and its inlined functions by their ids
pub record ExtendedModule : Type 0 where
  pub program : Program
  pub inlinees : ℕ → Option InlinedFunction

-- The line program of a stream, and then its inlined functions.
unfoldable pub extended_of : ModuleStream → Result ExtendedModule container.Fault
extended_of stream = do
  program ← line_program_in stream
  listed ← inlinees_in stream
  inlinees ← inlinees_by_id listed
  Ok record { program = program; inlinees = inlinees }

-- a fault of inline sites
abbrev pub sites_lifted : {A : Type 0} → Result A SitesFault → Result A Fault
sites_lifted (Ok x) = Ok x
sites_lifted (Err (InSymbols e)) = Err (PdbError e)
sites_lifted (Err Unsuccessful) = Err ProcedureInlineRangesUnsuccessful

-- the inline sites of a procedure among the symbols of its module
abbrev pub procedure_sites : ModuleStream → Procedure → Result (List Site) Fault
procedure_sites stream q = lifted (iteration_in stream 4) >>= λ symbols.
    sites_lifted (sites_of_procedure symbols.bytes q)

-- The line rows of a procedure, and then its inline sites.
unfoldable pub extended_procedure_of :
    ModuleStream → Program → Procedure → Result (List LineRow × List Site) Fault
extended_procedure_of stream program q = do
  rows ← lifted (function_rows program q.offset)
  sites ← procedure_sites stream q
  Ok (rows, sites)

-- the inlined calls over a place in a procedure, innermost first
unfoldable pub procedure_calls : ModuleStream → (ℕ → Option InlinedFunction) → Procedure
    → PdbInternalSectionOffset → Result (List InlinedCall) Fault
procedure_calls stream inlinees q place = do
  symbols ← lifted (iteration_in stream 4)
  sites ← sites_lifted (sites_of_procedure symbols.bytes q)
  Ok (calls_over (call_rows inlinees q.offset) sites place)
