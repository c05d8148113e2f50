-- What a run of a file says at a place is what the frames there say.
use Rattle.std.proofs.Common.{◌≡◌, ℕ, List, [], ◌∷◌, ◌++◌, map, Result, Ok, Err, refl, sym, ap, ◌∙◌}
use Rattle.std.specs.Prelude.{Option, None, Some, option_and_then}
use Rattle.pdb_addresses.specs.SectionRun.{up_to_next}
use Rattle.pdb_addresses.specs.declared.internal_section_offset.PdbInternalSectionOffset.{PdbInternalSectionOffset}
use Rattle.pdb_frames.specs.Choice.{Parts, Chosen, Proc, Public, chosen, start_of, start_address}
use Rattle.pdb_container.specs.Fault as container
use Rattle.pdb_container.specs.Fault.{◌>>=◌}
use Rattle.pdb_container.specs.StringTable.{text_in}
use Rattle.pdb_contributions.specs.declared.contribution.ModuleSectionContribution.{ModuleSectionContribution}
use Rattle.pdb_frames.proofs.FileStays.{last_after}
use Rattle.pdb_frames.specs.ChosenNames.{name_of}
use Rattle.pdb_frames.specs.Files.{entry_key, file_by, file_of, file_or_none, if_any, last_file}
use Rattle.pdb_frames.specs.Files.{row_key, starts_by, starts_if_chosen}
use Rattle.pdb_frames.specs.Files.{starts_if_frames, starts_in, starts_in_extended}
use Rattle.pdb_frames.specs.FileRuns.{file_run_at, file_run_if_chosen, file_run_in, file_run_of}
use Rattle.pdb_frames.specs.FileRuns.{rows_in, run_by_rows, run_if_addressed, run_if_read}
use Rattle.pdb_frames.specs.FileRuns.{run_reported}
use Rattle.pdb_frames.specs.FramesAt.{call_frame, found_frames, frames_at, frames_in_data}
use Rattle.pdb_frames.specs.FramesAt.{frames_of_chosen, function_frame, row_and_calls}
use Rattle.pdb_frames.specs.Scopes.{Scope}
use Rattle.pdb_owners.specs.FileAnswers.{FileAnswer}
use Rattle.pdb_owners.specs.Frames.{Frame}
use Rattle.pdb_owners.specs.declared.file_key.FileKey.{FileKey}
use Rattle.pdb_owners.specs.declared.file_key.FileKey.TheVariants as keys
use Rattle.pdb_known_modules.specs.KnownModules.{ModuleData, ExtendedModule, extended_of, module_data}
use Rattle.pdb_known_modules.specs.KnownModules.{extended_procedure_of, procedure_calls}
use Rattle.pdb_known_modules.specs.KnownModules.{procedure_sites, procedures_in, sites_lifted}
use Rattle.pdb_lines.specs.Checksums.{File, file_in}
use Rattle.pdb_lines.specs.LinesSubsections.{Program}
use Rattle.pdb_module_data.proofs.KnownNames.{entry_named, no_entry}
use Rattle.pdb_module_data.specs.Forest.{Site, sites_of}
use Rattle.pdb_module_data.specs.FunctionLine.{file_text, function_rows, if_read, row_at}
use Rattle.pdb_module_data.specs.FunctionLine.{row_starts}
use Rattle.pdb_module_data.specs.InlinedCalls.{call_rows, calls_over}
use Rattle.pdb_module_data.specs.Procedures.{Procedure}
use Rattle.pdb_module_data.specs.declared.function_rows.LineRow.{LineRow}
use Rattle.pdb_module_data.specs.declared.inlined_calls.InlinedCall.{InlinedCall}
use Rattle.pdb_names.specs.Env.{Env}
use Rattle.pdb_resolving.specs.Fault.{Fault, lifted}
use Rattle.pdb_symbols_modules.specs.ModuleStream.{ModuleStream, iteration_in}

-- ---- rows and calls of a chosen function by its rows

-- rows and sites as they are read, and the rows of these; a row and calls as they are found
abbrev read_both : List LineRow → List Site → Result (List LineRow × List Site) Fault
read_both rows sites = Ok (rows, sites)

abbrev rows_of : List LineRow × List Site → Result (List LineRow) Fault
rows_of read = Ok read.0

abbrev found : Option LineRow → List InlinedCall → Result (Option LineRow × List InlinedCall) Fault
found row calls = Ok (row, calls)

-- Rows agree with what was found: both have a fault, or the row is that of the rows, which are the
-- function's.
abbrev Agree : ExtendedModule → Chosen → PdbInternalSectionOffset → Result (List LineRow) Fault
    → Result (Option LineRow × List InlinedCall) Fault → Type 0
Agree extended c place (Ok rows) (Ok found) =
    (found.0 ≡ row_at rows place.offset) × (function_rows extended.program (start_of c) ≡ Ok rows)
Agree extended c place (Ok rows) (Err e) = ⊥
Agree extended c place (Err e) (Ok found) = ⊥
Agree extended c place (Err e) (Err other) = Unit {0}

agree_sites : (extended : ExtendedModule) (q : Procedure) (place : PdbInternalSectionOffset)
    (rows : List LineRow) (sites : Result (List Site) Fault) (over : List Site → List InlinedCall)
    → function_rows extended.program q.offset ≡ Ok rows
    → Agree extended (Proc q) place ((sites >>= read_both rows) >>= rows_of)
    ((sites >>= λ t. Ok (over t)) >>= found (row_at rows place.offset))
agree_sites extended q place rows (Ok t) over is = (refl, is)
agree_sites extended q place rows (Err e) over is = tt

agree_symbols : {S : Type 0} → (extended : ExtendedModule) (q : Procedure)
    (place : PdbInternalSectionOffset) (rows : List LineRow) (symbols : Result S container.Fault)
    (sites : S → Result (List Site) Fault) (over : List Site → List InlinedCall)
    → function_rows extended.program q.offset ≡ Ok rows
    → Agree extended (Proc q) place (((lifted symbols >>= sites) >>= read_both rows) >>= rows_of)
    ((lifted symbols >>= λ s. sites s >>= λ t. Ok (over t)) >>= found (row_at rows place.offset))
agree_symbols extended q place rows (Ok s) sites over is =
    agree_sites extended q place rows (sites s) over is
agree_symbols extended q place rows (Err e) sites over is = tt

agree_procedure : (stream : ModuleStream) (extended : ExtendedModule) (q : Procedure)
    (place : PdbInternalSectionOffset) (rows : Result (List LineRow) container.Fault)
    → function_rows extended.program q.offset ≡ rows
    → Agree extended (Proc q) place
    ((lifted rows >>= λ r. procedure_sites stream q >>= read_both r) >>= rows_of)
    (lifted (rows >>= λ r. Ok (row_at r place.offset))
    >>= λ row. procedure_calls stream extended.inlinees q place >>= found row)
unfolding procedure_calls
agree_procedure stream extended q place (Ok rows) is =
    agree_symbols extended q place rows (iteration_in stream 4) (λ symbols. sites_lifted
    (sites_of symbols.bytes (q.symbol_index).0 (q.end_symbol_index).0))
    (λ sites. calls_over (call_rows extended.inlinees q.offset) sites place) is
agree_procedure stream extended q place (Err e) is = tt

agree_public : (extended : ExtendedModule) (c : Chosen) (place : PdbInternalSectionOffset)
    (rows : Result (List LineRow) container.Fault)
    → function_rows extended.program (start_of c) ≡ rows
    → Agree extended c place (lifted rows)
    (lifted (rows >>= λ r. Ok (row_at r place.offset)) >>= λ row. found row [])
agree_public extended c place (Ok rows) is = (refl, is)
agree_public extended c place (Err e) is = tt

agree : (stream : ModuleStream) (extended : ExtendedModule) (c : Chosen)
    (place : PdbInternalSectionOffset)
    → Agree extended c place (rows_in stream extended.program c)
    (row_and_calls stream extended c place)
unfolding row_and_calls extended_procedure_of
agree stream extended (Proc q) place =
    agree_procedure stream extended q place (function_rows extended.program q.offset) refl
agree stream extended (Public f) place =
    agree_public extended (Public f) place (function_rows extended.program f.start_offset) refl

-- ---- files of rows

-- the file of a row that may be there
abbrev row_text : Parts → Program → Option LineRow → Option (List ℕ)
row_text p program row = option_and_then (λ r. file_text program p.names (r.file_index).0) row

entry_file : (p : Parts) (program : Program) (index : ℕ) (entry : Result File container.Fault)
    → file_in program.files index ≡ entry
    → file_by p (entry_key entry) ≡ Some (file_or_none (file_text program p.names index))
entry_file p program index (Ok file) read =
    let text = option_and_then (λ names. if_read (text_in names file.name)) p.names in
    ap (λ text. Some (file_or_none text)) (entry_named program p.names index file text read refl)
entry_file p program index (Err e) read =
    ap (λ text. Some (file_or_none text)) (no_entry program p.names index e read)

key_file : (p : Parts) (program : Program) (row : Option LineRow)
    → file_by p (row_key program row) ≡ Some (file_or_none (row_text p program row))
key_file p program None = refl
key_file p program (Some row) =
    let index = (row.file_index).0 in entry_file p program index (file_in program.files index) refl

counted : (name : Option (List ℕ)) → if_any (file_or_none name) ≡ Some (file_or_none name)
counted None = refl
counted (Some name) = refl

starts_count : (name : Option (List ℕ)) (starts : List ℕ)
    → starts_if_frames (file_or_none name) starts ≡ starts
starts_count None starts = refl
starts_count (Some name) starts = refl

-- ---- what a run says

-- a run's key stands for the file, and its count goes to the next row where there are frames
pub record IsFileRun (p : Parts) (place : PdbInternalSectionOffset) (far : ℕ) (starts : List ℕ)
    (answer : FileAnswer) (run : Option FileKey × ℕ) : Type 0 where
  pub file : option_and_then (file_by p) run.0 ≡ if_any answer
  pub count : run.1 ≡ up_to_next (starts_if_frames answer starts) place.offset far

module _ (p : Parts) (place : PdbInternalSectionOffset) (far : ℕ) (c : Chosen) where
  -- without data
  run_bare : (frame : Frame) (start : Option ℕ) → frame.file ≡ None
      → IsFileRun p place far [] (file_of (Ok (found_frames p c (frame ∷ []) start)))
      (run_if_addressed start far (keys.NoFile, far))
  run_bare frame None none = record { file = refl; count = refl }
  run_bare frame (Some a) none = rw none (record { file = refl; count = refl })

  -- by rows
  run_rows : (program : Program) (name : Option (List ℕ)) (section : ℕ) (others : List Frame)
      (row : Option LineRow) (rows : List LineRow) (start : Option ℕ)
      → row ≡ row_at rows place.offset
      → IsFileRun p place far (row_starts rows)
      (file_of (Ok (found_frames p c (others ++ function_frame p program name section row ∷ [])
      start)))
      (run_if_addressed start far (run_by_rows program place far rows))
  run_rows program name section others row rows None is = record { file = refl; count = refl }
  run_rows program name section others row rows (Some a) is =
      let text = row_text p program row in
      let last :
      last_file (others ++ function_frame p program name section row ∷ []) ≡ file_or_none text =
      last_after others (function_frame p program name section row) in
      record {
        file = ap (λ r. file_by p (row_key program r)) (sym is)
            ∙ key_file p program row ∙ sym (counted text) ∙ ap if_any (sym last);
        count = ap (λ starts. up_to_next starts place.offset far)
            (sym (starts_count text (row_starts rows))
            ∙ ap (λ answer. starts_if_frames answer (row_starts rows)) (sym last));
      }

  -- by rows that may not be readable
  run_read : (extended : ExtendedModule) (name : Option (List ℕ))
      (others : List InlinedCall → List Frame) (rows : Result (List LineRow) Fault)
      (read : Result (Option LineRow × List InlinedCall) Fault)
      → Agree extended c place rows read
      → IsFileRun p place far (starts_in_extended c (Ok extended))
      (file_of ((read >>= λ found. Ok (others found.1
      ++ function_frame p extended.program name (start_of c).section found.0 ∷ []))
      >>= λ frames. Ok (found_frames p c frames (start_address p c))))
      (run_reported (start_address p c) far (run_if_read extended.program place far rows))
  run_read extended name others (Ok rows) (Ok found) agrees =
      rw agrees.1 (run_rows extended.program name (start_of c).section (others found.1) found.0 rows
      (start_address p c) agrees.0)
  run_read extended name others (Ok rows) (Err e) agrees = absurd agrees
  run_read extended name others (Err e) (Ok found) agrees = absurd agrees
  run_read extended name others (Err e) (Err other) agrees = record { file = refl; count = refl }

  -- by line program and inlinees that may not be readable
  run_extended : (env : Env) (known : ModuleData) (extended : Result ExtendedModule container.Fault)
      → IsFileRun p place far (starts_in_extended c extended)
      (file_of ((lifted extended >>= λ extended. row_and_calls known.stream extended c place
      >>= λ found. Ok (map (call_frame p env extended.program) found.1
      ++ function_frame p extended.program (name_of p env c) (start_of c).section found.0 ∷ []))
      >>= λ frames. Ok (found_frames p c frames (start_address p c))))
      (run_reported (start_address p c) far
      (lifted extended >>= λ extended.
      run_if_read extended.program place far (rows_in known.stream extended.program c)))
  run_extended env known (Ok extended) =
      run_read extended (name_of p env c) (map (call_frame p env extended.program))
      (rows_in known.stream extended.program c) (row_and_calls known.stream extended c place)
      (agree known.stream extended c place)
  run_extended env known (Err e) = record { file = refl; count = refl }

  -- in a chosen function
  run_known : (env : Env) (known : Option ModuleData)
      → IsFileRun p place far (starts_in known c)
      (file_of (frames_of_chosen p env known place (Some c)))
      (run_reported (start_address p c) far (file_run_of known c place far))
  unfolding frames_in_data file_run_in
  run_known env None =
      run_bare (record { function = name_of p env c; file = None; line = None; row = None })
      (start_address p c) refl
  run_known env (Some known) = run_extended env known (extended_of known.stream)

run_if_chosen : (p : Parts) (place : PdbInternalSectionOffset) (far : ℕ) (env : Env)
    (known : Option ModuleData) (c : Option Chosen)
    → IsFileRun p place far (starts_if_chosen known c)
    (file_of (frames_of_chosen p env known place c)) (file_run_if_chosen p known place far c)
run_if_chosen p place far env known None = record { file = refl; count = refl }
run_if_chosen p place far env known (Some c) = run_known p place far c env known

-- A run at a place that a contribution holds says what the frames there say.
pub is_file_run : (p : Parts) (scope : ℕ → Scope) (c : ModuleSectionContribution)
    (place : PdbInternalSectionOffset) (far : ℕ)
    → IsFileRun p place far (starts_by p scope place (Some c))
    (file_of (frames_at p (scope c.module_index) c place))
    (file_run_at p (scope c.module_index) c place far)
unfolding frames_at
is_file_run p scope c place far =
    let s = scope c.module_index in
    let known = module_data s.own in
    run_if_chosen p place far s.env known (chosen p (procedures_in known) c place)
