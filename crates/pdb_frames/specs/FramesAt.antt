-- The answers for an address of the image: its function, and the frames at it.
use Rattle.std.specs.Prelude.{ℕ, List, [], ◌∷◌, ◌++◌, map, Option, None, Some, option_map}
use Rattle.std.specs.Prelude.{option_and_then, Result, Ok}
use Rattle.pdb_container.specs.Fault.{◌>>=◌}
use Rattle.pdb_container.specs.declared.index_numbers.FileIndex.{FileIndex}
use Rattle.pdb_addresses.specs.declared.internal_section_offset.PdbInternalSectionOffset.{
  PdbInternalSectionOffset,
}
use Rattle.pdb_lines.specs.LinesSubsections.{Program}
use Rattle.pdb_symbols_modules.specs.ModuleStream.{ModuleStream}
use Rattle.pdb_lines.specs.Inlinees.{InlinedFunction}
use Rattle.pdb_contributions.specs.declared.contribution.ModuleSectionContribution.{
  ModuleSectionContribution,
}
use Rattle.pdb_module_data.specs.declared.function_rows.LineRow.{LineRow}
use Rattle.pdb_module_data.specs.declared.inlined_calls.InlinedCall.{InlinedCall}
use Rattle.pdb_module_data.specs.FunctionLine.{file_text, function_row}
use Rattle.pdb_resolving.specs.Fault.{Fault, lifted}
use Rattle.pdb_names.specs.Env.{Env}
use Rattle.pdb_names.specs.Ids.{id_text}
use Rattle.pdb_names.specs.StoredNames.{if_made}
use Rattle.pdb_owners.specs.Frames.{Frame, FunctionFrames}
use Rattle.pdb_owners.specs.declared.frames.FrameRow.{FrameRow}
use Rattle.pdb_addresses.specs.Addresses.{outer_of_place}
use Rattle.pdb_module_data.specs.declared.inlined_calls.CodeSpan.{CodeSpan}
use Rattle.pdb_owners.specs.FunctionOrder.{Function}
use Rattle.pdb_known_modules.specs.KnownModules.{ModuleData, ExtendedModule, module_data}
use Rattle.pdb_known_modules.specs.KnownModules.{procedures_in, extended_of, procedure_calls}
use Rattle.pdb_frames.specs.Choice.{Parts, Chosen, Proc, Public, chosen, start_of, start_address}
use Rattle.pdb_frames.specs.Choice.{length_of, end_behind, function_end, place_of, held_at}
use Rattle.pdb_frames.specs.ChosenNames.{name_of}
use Rattle.pdb_frames.specs.Scopes.{Scope}

-- ---- frames

-- the row whose code begins at a place, with its length, if the place has an image address
abbrev pub frame_row : Parts → PdbInternalSectionOffset → Option ℕ → Option FrameRow
frame_row p place length =
    option_map (λ a. record { start_rva = a; length = length })
    (outer_of_place p.map place.section place.offset)

-- the row of an inlined call
abbrev pub call_row : Parts → Option CodeSpan → Option FrameRow
call_row p code = option_and_then (λ c. frame_row p c.offset (Some c.length)) code

-- the place at which a line row begins in a section
abbrev pub row_start : ℕ → LineRow → PdbInternalSectionOffset
row_start section row = record { offset = row.start; section = section }

-- the row of a function that begins in a section
abbrev pub function_frame_row : Parts → ℕ → Option LineRow → Option FrameRow
function_frame_row p section row =
    option_and_then (λ r. frame_row p (row_start section r) r.length) row

-- the name of the source file with an index among a module's files, if both are there
abbrev pub named_file : Parts → Program → Option FileIndex → Option (List ℕ)
named_file p program file =
    option_and_then (λ index. file_text program p.names index.0) file

-- the frame of an inlined call

abbrev pub call_frame : Parts → Env → Program → InlinedCall → Frame
call_frame p env program call = record {
  function = if_made (id_text env (call.inlinee).0);
  file = named_file p program call.file;
  line = call.line;
  row = call_row p call.row;
}

-- the frame of a function that begins in a section, with its row
abbrev pub function_frame :
    Parts → Program → Option (List ℕ) → ℕ → Option LineRow → Frame
function_frame p program name section row = record {
  function = name;
  file = option_and_then (λ r. file_text program p.names (r.file_index).0) row;
  line = option_map (λ r. r.line_start) row;
  row = function_frame_row p section row;
}

-- the inlined calls over a place in a chosen function, innermost first; none in a public entry
abbrev pub calls_in : ModuleStream → (ℕ → Option InlinedFunction) → Chosen
    → PdbInternalSectionOffset → Result (List InlinedCall) Fault
calls_in stream inlinees (Proc q) place = procedure_calls stream inlinees q place
calls_in stream inlinees (Public f) place = Ok []

-- The line row of a place in a chosen function, and then the inlined calls over the place: the rows
-- of the function's subsection, and a procedure's sites are read in this order.
unfoldable pub row_and_calls : ModuleStream → ExtendedModule → Chosen → PdbInternalSectionOffset
    → Result (Option LineRow × List InlinedCall) Fault
row_and_calls stream extended c place = do
  row ← lifted (function_row extended.program (start_of c) place)
  calls ← calls_in stream extended.inlinees c place
  Ok (row, calls)

-- The frames at a place in a chosen function, from its module's data: line program and inlinees are
-- read first, then row and calls.
unfoldable pub frames_in_data : Parts → Env → ModuleData → Chosen → PdbInternalSectionOffset
    → Result (List Frame) Fault
frames_in_data p env known c place = do
  extended ← lifted (extended_of known.stream)
  found ← row_and_calls known.stream extended c place
  Ok (map (call_frame p env extended.program) found.1
      ++ function_frame p extended.program (name_of p env c) (start_of c).section found.0 ∷ [])

-- the frames at a place in a chosen function whose module may have no data: without data the
-- function alone, without file, line and row
abbrev pub frames_in : Parts → Env → Option ModuleData → Chosen → PdbInternalSectionOffset
    → Result (List Frame) Fault
frames_in p env None c place =
    Ok (record { function = name_of p env c; file = None; line = None; row = None } ∷ [])
frames_in p env (Some known) c place = frames_in_data p env known c place

-- frames of a chosen function that begins at an image address
abbrev pub found_frames : Parts → Chosen → List Frame → Option ℕ → Option FunctionFrames
found_frames p c frames start =
    option_map (λ a. record {
      start_rva = a;
      end_rva = end_behind a (length_of p c);
      frames = frames;
    }) start

-- no frames
abbrev pub nothing : Option FunctionFrames
nothing = None

-- the function that may be chosen, with its frames: nothing without it, and nothing where its start
-- has no image address; but a module whose data can't be read comes before this
abbrev pub frames_of_chosen : Parts → Env → Option ModuleData → PdbInternalSectionOffset
    → Option Chosen → Result (Option FunctionFrames) Fault
frames_of_chosen p env known place None = Ok None
frames_of_chosen p env known place (Some c) =
    frames_in p env known c place >>= λ frames. Ok (found_frames p c frames (start_address p c))

-- frames that are read and not made: nothing, or the fault of the parts that they are made from
abbrev pub frames_checked : Parts → Env → Option ModuleData → Chosen → PdbInternalSectionOffset
    → Result (Option FunctionFrames) Fault
frames_checked p env known c place = frames_in p env known c place >>= λ _. Ok nothing

-- the answer in the module of a contribution, for a place that it holds
unfoldable pub frames_at : Parts → Scope → ModuleSectionContribution → PdbInternalSectionOffset
    → Result (Option FunctionFrames) Fault
frames_at p s c place =
    frames_of_chosen p s.env (module_data s.own) place
    (chosen p (procedures_in (module_data s.own)) c place)

-- ---- functions

-- a chosen function
abbrev pub function_of : Parts → Env → Chosen → Option Function
function_of p env c =
    option_and_then (λ start. option_map (λ end. record {
      start_rva = start;
      end_rva = end;
      name = name_of p env c;
    }) (function_end p c start)) (start_address p c)

-- the function in the module of a contribution, for a place that it holds
unfoldable pub function_at : Parts → Scope → ModuleSectionContribution → PdbInternalSectionOffset
    → Option Function
function_at p s c place =
    option_and_then (function_of p s.env) (chosen p (procedures_in (module_data s.own)) c place)

-- ---- addresses

-- the answer in the module that holds a place, where one does
abbrev pub frames_if_held : Parts → (ℕ → Scope)
    → Option (ModuleSectionContribution × PdbInternalSectionOffset)
    → Result (Option FunctionFrames) Fault
frames_if_held p scope None = Ok None
frames_if_held p scope (Some held) = frames_at p (scope (held.0).module_index) held.0 held.1

-- the frames at an address of the image, from the scopes of modules
unfoldable pub frames : Parts → (ℕ → Scope) → ℕ → Result (Option FunctionFrames) Fault
frames p scope a = frames_if_held p scope (held_at p (place_of p a))

-- the function at an address of the image
unfoldable pub function : Parts → (ℕ → Scope) → ℕ → Option Function
function p scope a =
    option_and_then (λ held. function_at p (scope (held.0).module_index) held.0 held.1)
    (held_at p (place_of p a))
