-- While the choice stays, the frames at a place change at starts of rows, and at starts and ends of
-- rows of inline sites, alone.
use Rattle.std.proofs.Common.{◌≡◌, ℕ, ◌+◌, List, [], ◌∷◌, ◌++◌, Result, Ok, Err, refl, sym, ap}
use Rattle.std.proofs.Common.{◌∙◌}
use Rattle.std.specs.Prelude.{Option, None, Some, map}
use Rattle.pdb_addresses.specs.declared.internal_section_offset.PdbInternalSectionOffset.{
  PdbInternalSectionOffset,
}
use Rattle.pdb_frames.specs.Choice.{Parts, Chosen, Proc, Public, start_of, start_address}
use Rattle.pdb_container.specs.Fault as container
use Rattle.pdb_container.specs.Fault.{◌>>=◌}
use Rattle.pdb_frames.proofs.CallsStay.{calls_stay}
use Rattle.pdb_frames.proofs.FileStays.{AreClear, row_stays}
use Rattle.pdb_frames.proofs.ProcedureSteps.{found_in, row_and_calls_by}
use Rattle.pdb_frames.proofs.RunLaw.{front_clear, on, rest_clear}
use Rattle.pdb_frames.specs.ChosenNames.{name_of}
use Rattle.pdb_frames.specs.FrameRuns.{chosen_cuts, cuts_if_chosen, cuts_in_stream, cuts_read}
use Rattle.pdb_frames.specs.FrameRuns.{procedure_cuts}
use Rattle.pdb_frames.specs.FramesAt.{call_frame, function_frame, row_and_calls}
use Rattle.pdb_frames.specs.FramesAt.{frames_in_data, found_frames, frames_of_chosen}
use Rattle.pdb_owners.specs.Frames.{Frame}
use Rattle.pdb_known_modules.specs.KnownModules.{ModuleData, ExtendedModule, extended_of}
use Rattle.pdb_known_modules.specs.KnownModules.{extended_procedure_of}
use Rattle.pdb_module_data.specs.Forest.{Site}
use Rattle.pdb_module_data.specs.FunctionLine.{function_rows, row_at, row_starts}
use Rattle.pdb_module_data.specs.InlinePieces.{cuts_of, rows_of_sites}
use Rattle.pdb_module_data.specs.InlinedCalls.{call_rows, calls_over}
use Rattle.pdb_module_data.specs.Procedures.{Procedure}
use Rattle.pdb_module_data.specs.declared.function_rows.LineRow.{LineRow}
use Rattle.pdb_module_data.specs.declared.inlined_calls.InlinedCall.{InlinedCall}
use Rattle.pdb_names.specs.Env.{Env}
use Rattle.pdb_resolving.specs.Fault.{Fault, lifted}
use Rattle.pdb_symbols_modules.specs.ModuleStream.{ModuleStream}

-- ---- a row and calls

abbrev Found : Type 0
Found = Result (Option LineRow × List InlinedCall) Fault

abbrev found : Option LineRow → List InlinedCall → Found
found row calls = Ok (row, calls)

module _ (stream : ModuleStream) (x : ExtendedModule) (place : PdbInternalSectionOffset) (k : ℕ) where
  abbrev found_by : Procedure → PdbInternalSectionOffset → Result (List LineRow × List Site) Fault
      → Found
  found_by q at read =
      read >>= found_in (λ rows. row_at rows at.offset)
      (λ sites. calls_over (call_rows x.inlinees q.offset) sites at)

  by_read : (q : Procedure) (read : Result (List LineRow × List Site) Fault)
      → AreClear (cuts_read (read >>= λ both. Ok (procedure_cuts x.inlinees q both))) place.offset k
      → found_by q (on place k) read ≡ found_by q place read
  by_read q (Ok both) clear =
      let rows = both.0 in
      let sites = both.1 in
      let starts = row_starts rows in
      let cuts = cuts_of (rows_of_sites (call_rows x.inlinees q.offset) sites) in
      let e = row_stays rows place.offset k
      (λ j low high. front_clear starts cuts (place.offset + j) (clear j low high)) in
      let f = calls_stay (call_rows x.inlinees q.offset) sites place k
      (λ j low high. rest_clear starts cuts (place.offset + j) (clear j low high)) in
      ap (λ (row : Option LineRow).
      found row (calls_over (call_rows x.inlinees q.offset) sites (on place k))) e
      ∙ ap (λ (calls : List InlinedCall). found (row_at rows place.offset) calls) f
  by_read q (Err e) clear = refl

  abbrev public_found : Result (List LineRow) container.Fault → PdbInternalSectionOffset → Found
  public_found rows at = lifted (rows >>= λ all. Ok (row_at all at.offset)) >>= λ row. found row []

  public_by_rows : (rows : Result (List LineRow) container.Fault)
      → AreClear (cuts_read (lifted rows >>= λ rows. Ok (row_starts rows))) place.offset k
      → public_found rows (on place k) ≡ public_found rows place
  public_by_rows (Ok rows) clear =
      ap (λ (row : Option LineRow). found row []) (row_stays rows place.offset k clear)
  public_by_rows (Err e) clear = refl

  found_stay : (c : Chosen) → AreClear (cuts_read (chosen_cuts stream x c)) place.offset k
      → row_and_calls stream x c (on place k) ≡ row_and_calls stream x c place
  unfolding row_and_calls
  found_stay (Proc q) clear =
      row_and_calls_by stream x q (on place k)
      ∙ by_read q (extended_procedure_of stream x.program q) clear
      ∙ sym (row_and_calls_by stream x q place)
  found_stay (Public f) clear = public_by_rows (function_rows x.program f.start_offset) clear

-- ---- frames
module _ (p : Parts) (env : Env) (c : Chosen) (place : PdbInternalSectionOffset) (k : ℕ) where
  -- frames by a row and calls
  abbrev made : ExtendedModule → Option LineRow × List InlinedCall → List Frame
  made x found =
      map (call_frame p env x.program) found.1
      ++ function_frame p x.program (name_of p env c) (start_of c).section found.0 ∷ []

  abbrev frames_by : ModuleStream → Result ExtendedModule container.Fault
      → PdbInternalSectionOffset → Result (List Frame) Fault
  frames_by stream extended at =
      lifted extended >>= λ x. row_and_calls stream x c at >>= λ found. Ok (made x found)

  by_extended : (stream : ModuleStream) (extended : Result ExtendedModule container.Fault)
      → AreClear (cuts_read (lifted extended >>= λ x. chosen_cuts stream x c)) place.offset k
      → frames_by stream extended (on place k) ≡ frames_by stream extended place
  by_extended stream (Ok x) clear =
      ap (λ (r : Found). r >>= λ found. Ok (made x found)) (found_stay stream x place k c clear)
  by_extended stream (Err e) clear = refl

  in_data : (known : ModuleData)
      → AreClear (cuts_read (cuts_in_stream known.stream c)) place.offset k
      → frames_in_data p env known c (on place k) ≡ frames_in_data p env known c place
  unfolding frames_in_data cuts_in_stream
  in_data known clear = by_extended known.stream (extended_of known.stream) clear

-- between such places the frames in a chosen function stay
pub frames_in_chosen_stay : (p : Parts) (env : Env) (known : Option ModuleData)
    (place : PdbInternalSectionOffset) (k : ℕ) (chosen : Option Chosen)
    → AreClear (cuts_if_chosen known chosen) place.offset k
    → frames_of_chosen p env known (on place k) chosen
    ≡ frames_of_chosen p env known place chosen
frames_in_chosen_stay p env known place k None clear = refl
frames_in_chosen_stay p env None place k (Some c) clear = refl
frames_in_chosen_stay p env (Some known) place k (Some c) clear =
    ap (λ (r : Result (List Frame) Fault).
    r >>= λ frames. Ok (found_frames p c frames (start_address p c)))
    (in_data p env c place k known clear)
