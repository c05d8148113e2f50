-- Runs of frames: the frames at a place, where they may change, and how far they go on.
use Rattle.std.specs.Prelude.{ℕ, Bool, ◌==◌, ◌||◌, List, [], ◌++◌, Option, None, Some}
use Rattle.std.specs.Prelude.{Result, Ok, Err}
use Rattle.std.specs.List.{list_any}
use Rattle.pdb_addresses.specs.Places.{internal_place}
use Rattle.pdb_addresses.specs.SectionRun.{up_to_next}
use Rattle.pdb_addresses.specs.declared.internal_section_offset.PdbInternalSectionOffset.{
  PdbInternalSectionOffset,
}
use Rattle.pdb_frames.specs.Choice.{Parts, Chosen, Proc, Public, chosen, held_at}
use Rattle.pdb_container.specs.Fault.{◌>>=◌}
use Rattle.pdb_contributions.specs.MergedContributions.{holder}
use Rattle.pdb_contributions.specs.declared.contribution.ModuleSectionContribution.{
  ModuleSectionContribution,
}
use Rattle.pdb_frames.specs.FramesAt.{frames_at, frames_if_held}
use Rattle.pdb_frames.specs.Runs.{is_bound}
use Rattle.pdb_frames.specs.Scopes.{Scope}
use Rattle.pdb_owners.specs.Databases.{Database}
use Rattle.pdb_owners.specs.Frames.{FunctionFrames}
use Rattle.pdb_lines.specs.Inlinees.{InlinedFunction}
use Rattle.pdb_known_modules.specs.KnownModules.{ModuleData, ExtendedModule, extended_of}
use Rattle.pdb_known_modules.specs.KnownModules.{extended_procedure_of, module_data, procedures_in}
use Rattle.pdb_lines.specs.LinesSubsections.{Program}
use Rattle.pdb_module_data.specs.Forest.{Site}
use Rattle.pdb_module_data.specs.FunctionLine.{function_rows, row_starts}
use Rattle.pdb_module_data.specs.InlinePieces.{cuts_of, rows_of_sites}
use Rattle.pdb_module_data.specs.InlinedCalls.{call_rows}
use Rattle.pdb_module_data.specs.Procedures.{Procedure}
use Rattle.pdb_module_data.specs.declared.function_rows.LineRow.{LineRow}
use Rattle.pdb_resolving.specs.Fault.{Fault, lifted}
use Rattle.pdb_symbols_modules.specs.ModuleStream.{ModuleStream}

-- ---- where the frames in a chosen function may change

-- the starts of the rows of a procedure's subsection, and the starts and ends of the rows of its
-- inline sites
abbrev pub procedure_cuts :
    (ℕ → Option InlinedFunction) → Procedure → List LineRow × List Site → List ℕ
procedure_cuts inlinees q read =
    row_starts read.0 ++ cuts_of (rows_of_sites (call_rows inlinees q.offset) read.1)

-- the starts of the rows of the function that begins at a place
abbrev pub public_cuts : Program → PdbInternalSectionOffset → Result (List ℕ) Fault
public_cuts program start = lifted (function_rows program start) >>= λ rows. Ok (row_starts rows)

-- such places in a chosen function, from its module's line program and inlinees; a public entry has
-- no sites
abbrev pub chosen_cuts : ModuleStream → ExtendedModule → Chosen → Result (List ℕ) Fault
chosen_cuts stream extended (Proc q) =
    extended_procedure_of stream extended.program q >>= λ read.
    Ok (procedure_cuts extended.inlinees q read)
chosen_cuts stream extended (Public f) = public_cuts extended.program f.start_offset

-- the same from the module's stream: line program and inlinees are read first
unfoldable pub cuts_in_stream : ModuleStream → Chosen → Result (List ℕ) Fault
cuts_in_stream stream c = do
  extended ← lifted (extended_of stream)
  chosen_cuts stream extended c

-- places that could be read; none where they couldn't be
abbrev pub cuts_read : Result (List ℕ) Fault → List ℕ
cuts_read (Ok cuts) = cuts
cuts_read (Err e) = []

-- the same from the module's data; none without data
abbrev pub cuts_in : Option ModuleData → Chosen → List ℕ
cuts_in None c = []
cuts_in (Some known) c = cuts_read (cuts_in_stream known.stream c)

-- the same in what is chosen, if something is
abbrev pub cuts_if_chosen : Option ModuleData → Option Chosen → List ℕ
cuts_if_chosen known None = []
cuts_if_chosen known (Some c) = cuts_in known c

-- the lesser of a number and the distance from an offset to the next of such places, if they could
-- be read
abbrev pub count_if_read : Result (List ℕ) Fault → ℕ → ℕ → Result ℕ Fault
count_if_read cuts offset far = cuts >>= λ cuts. Ok (up_to_next cuts offset far)

-- the same from the module's data; without data frames don't change
abbrev pub count_in :
    Option ModuleData → Chosen → PdbInternalSectionOffset → ℕ → Result ℕ Fault
count_in None c place far = Ok far
count_in (Some known) c place far =
    count_if_read (cuts_in_stream known.stream c) place.offset far

-- ---- at a place

-- the frames at a place
abbrev pub frames_here :
    Parts → (ℕ → Scope) → PdbInternalSectionOffset → Result (Option FunctionFrames) Fault
frames_here p scope place = frames_if_held p scope (held_at p (Some place))

-- frames that can be read; nothing where they can't
abbrev pub readable : Result (Option FunctionFrames) Fault → Option FunctionFrames
readable (Ok frames) = frames
readable (Err e) = None

-- places at which frames may change count where there are frames alone
abbrev pub cuts_if_frames : Result (Option FunctionFrames) Fault → List ℕ → List ℕ
cuts_if_frames (Err e) cuts = []
cuts_if_frames (Ok None) cuts = []
cuts_if_frames (Ok (Some frames)) cuts = cuts

-- the places in the function chosen at a place at which its frames may change, from the
-- contribution that holds it
abbrev pub cuts_by : Parts → (ℕ → Scope) → PdbInternalSectionOffset
    → Option ModuleSectionContribution → List ℕ
cuts_by p scope place None = []
cuts_by p scope place (Some c) =
    let known = module_data (scope c.module_index).own in
    cuts_if_chosen known (chosen p (procedures_in known) c place)

-- the places at which the frames may change within a function: a line row of the function begins
-- there, or a row of one of its inline sites begins or ends there
abbrev pub cuts_here : Parts → (ℕ → Scope) → PdbInternalSectionOffset → List ℕ
cuts_here p scope place =
    cuts_if_frames (frames_here p scope place)
    (cuts_by p scope place (holder p.contributions place))

-- the frames may change at a place: the function may, or one of its rows begins there, or a row of
-- one of its inline sites begins or ends there
abbrev pub is_frames_bound : Parts → (ℕ → Scope) → PdbInternalSectionOffset → Bool
is_frames_bound p scope place =
    is_bound p scope place || list_any (λ cut. place.offset == cut) (cuts_here p scope place)

-- an answer as it is counted: frames that can't be read are none; nothing isn't counted
abbrev pub if_answered : Result (Option FunctionFrames) Fault → Option (Option FunctionFrames)
if_answered (Err e) = Some None
if_answered (Ok None) = None
if_answered (Ok (Some frames)) = Some (Some frames)

-- the frames of each place, the rows of frames among them, and whether they may change there
abbrev pub frames_of_places : Parts → (ℕ → Scope) → Database (Option FunctionFrames)
frames_of_places p scope = record {
  answer = λ place. if_answered (frames_here p scope (internal_place place));
  is_bound = λ place. is_frames_bound p scope (internal_place place);
}

-- ---- runs

-- the frames that an answer has, and the lesser of a number and the distance to the next of places
-- at which frames may change, where there are some
abbrev pub run_of_answer : Result (Option FunctionFrames) Fault → List ℕ
    → PdbInternalSectionOffset → ℕ → Option FunctionFrames × ℕ
run_of_answer answer cuts place far =
    (readable answer, up_to_next (cuts_if_frames answer cuts) place.offset far)

-- the run in the module of a contribution, at a place that it holds, with so many bytes to the
-- next bound of functions
abbrev pub frames_run_at : Parts → Scope → ModuleSectionContribution → PdbInternalSectionOffset
    → ℕ → Option FunctionFrames × ℕ
frames_run_at p s c place far =
    let known = module_data s.own in
    run_of_answer (frames_at p s c place)
    (cuts_if_chosen known (chosen p (procedures_in known) c place)) place far
