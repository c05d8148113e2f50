-- A procedure's row and calls by what was read of it.
use Rattle.std.proofs.Common.{◌≡◌, Result, Ok, Err, List, refl, ap, ◌∙◌}
use Rattle.std.specs.Prelude.{Option}
use Rattle.pdb_container.specs.Fault as container
use Rattle.pdb_container.specs.Fault.{◌>>=◌}
use Rattle.pdb_addresses.specs.declared.internal_section_offset.PdbInternalSectionOffset.{PdbInternalSectionOffset}
use Rattle.pdb_symbols_modules.specs.ModuleStream.{ModuleStream, iteration_in}
use Rattle.pdb_module_data.specs.declared.function_rows.LineRow.{LineRow}
use Rattle.pdb_module_data.specs.Forest.{Site, sites_of}
use Rattle.pdb_module_data.specs.FunctionLine.{function_rows, row_at}
use Rattle.pdb_module_data.specs.declared.inlined_calls.InlinedCall.{InlinedCall}
use Rattle.pdb_module_data.specs.InlinedCalls.{call_rows, calls_over}
use Rattle.pdb_module_data.specs.Procedures.{Procedure}
use Rattle.pdb_resolving.specs.declared.error.Error.{Error}
use Rattle.pdb_resolving.specs.Fault.{Fault, Fails, lifted}
use Rattle.pdb_resolving.proofs.Lifting.{fails_on}
use Rattle.pdb_frames.specs.Choice.{Proc}
use Rattle.pdb_frames.specs.FramesAt.{row_and_calls}
use Rattle.pdb_known_modules.specs.KnownModules.{ExtendedModule, extended_procedure_of, procedure_calls, sites_lifted}

-- a row and calls as they are found, rows and sites as they are read, and the former by the latter
abbrev found : Option LineRow → List InlinedCall → Result (Option LineRow × List InlinedCall) Fault
found row calls = Ok (row, calls)

abbrev read_both : List LineRow → List Site → Result (List LineRow × List Site) Fault
read_both rows sites = Ok (rows, sites)

abbrev pub found_in : (List LineRow → Option LineRow) → (List Site → List InlinedCall) → List LineRow × List Site → Result (Option LineRow × List InlinedCall) Fault
found_in f g read = Ok (f read.0, g read.1)

module _ (f : List LineRow → Option LineRow) (g : List Site → List InlinedCall) where
  -- the same steps of sites, in either grouping
  in_sites : (rows : List LineRow) (sites : Result (List Site) Fault) → ((sites >>= λ t. Ok (g t)) >>= found (f rows)) ≡ ((sites >>= read_both rows) >>= found_in f g)
  in_sites rows (Ok sites) = refl
  in_sites rows (Err e) = refl

  in_symbols : {S : Type 0} → (rows : List LineRow) (symbols : Result S container.Fault) (sites : S → Result (List Site) Fault)
      → ((lifted symbols >>= λ s. sites s >>= λ t. Ok (g t)) >>= found (f rows)) ≡ (((lifted symbols >>= λ s. sites s) >>= read_both rows) >>= found_in f g)
  in_symbols rows (Ok s) sites = in_sites rows (sites s)
  in_symbols rows (Err e) sites = refl

  in_rows : {S : Type 0} → (rows : Result (List LineRow) container.Fault) (symbols : Result S container.Fault) (sites : S → Result (List Site) Fault)
      → (lifted (rows >>= λ r. Ok (f r)) >>= λ row. (lifted symbols >>= λ s. sites s >>= λ t. Ok (g t)) >>= found row)
      ≡ ((lifted rows >>= λ r. (lifted symbols >>= λ s. sites s) >>= read_both r) >>= found_in f g)
  in_rows (Ok r) symbols sites = in_symbols r symbols sites
  in_rows (Err e) symbols sites = refl

-- row and calls by rows and sites
abbrev pub by_parts : ModuleStream → ExtendedModule → Procedure → PdbInternalSectionOffset → Type 0
by_parts stream extended q place =
    row_and_calls stream extended (Proc q) place ≡ (extended_procedure_of stream extended.program q >>= found_in (λ rows. row_at rows place.offset) (λ sites. calls_over (call_rows extended.inlinees q.offset) sites place))

-- row and calls of a procedure are those by its rows and its sites
pub row_and_calls_by : (stream : ModuleStream) (extended : ExtendedModule) (q : Procedure) (place : PdbInternalSectionOffset) → by_parts stream extended q place
unfolding row_and_calls extended_procedure_of procedure_calls
row_and_calls_by stream extended q place =
    in_rows (λ rows. row_at rows place.offset) (λ sites. calls_over (call_rows extended.inlinees q.offset) sites place)
    (function_rows extended.program q.offset) (iteration_in stream 4) (λ symbols. sites_lifted (sites_of symbols.bytes (q.symbol_index).0 (q.end_symbol_index).0))

-- they are found in what was read
pub row_and_calls_are : (stream : ModuleStream) (extended : ExtendedModule) (q : Procedure) (place : PdbInternalSectionOffset) (rows : List LineRow) (sites : List Site)
    → extended_procedure_of stream extended.program q ≡ Ok (rows, sites)
    → row_and_calls stream extended (Proc q) place ≡ Ok (row_at rows place.offset, calls_over (call_rows extended.inlinees q.offset) sites place)
row_and_calls_are stream extended q place rows sites read =
    row_and_calls_by stream extended q place ∙ ap (λ r. r >>= found_in (λ rows. row_at rows place.offset) (λ sites. calls_over (call_rows extended.inlinees q.offset) sites place)) read

-- where these can't be read, neither can they
pub row_and_calls_fail : (stream : ModuleStream) (extended : ExtendedModule) (q : Procedure) (place : PdbInternalSectionOffset) (e : Error)
    → Fails e (extended_procedure_of stream extended.program q) → Fails e (row_and_calls stream extended (Proc q) place)
row_and_calls_fail stream extended q place e h =
    rw (row_and_calls_by stream extended q place) (fails_on e (extended_procedure_of stream extended.program q) _ h)
