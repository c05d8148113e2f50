-- The frames at places in the function that the code chose, from what it read.
use Rattle.std.specs.Prelude.{◌≡◌, ℕ, List, Option, Result, map}
use Rattle.std.specs.Global.{Vec}
use Rattle.pdb_addresses.specs.declared.internal_section_offset.PdbInternalSectionOffset.{
  PdbInternalSectionOffset,
}
use Rattle.pdb_frames.specs.Choice.{Chosen, Parts}
use Rattle.pdb_frames.specs.ChosenSeen.{chosen_seen}
use Rattle.pdb_frames.specs.FramesAt.{call_frame, frames_checked, frames_in, frames_in_data}
use Rattle.pdb_frames.specs.FramesAt.{function_frame, nothing, row_and_calls}
use Rattle.pdb_frames.specs.declared.frames.PlaceInFunction.{PlaceInFunction}
use Rattle.pdb_known_modules.specs.KnownModules.{ModuleData}
use Rattle.pdb_known_modules.specs.Seen.{extended_seen}
use Rattle.pdb_known_modules.specs.declared.modules.ExtendedModuleInfo.{ExtendedModuleInfo}
use Rattle.pdb_lines.specs.LinesSubsections.{Program}
use Rattle.pdb_module_data.specs.Forest.{Site}
use Rattle.pdb_module_data.specs.InlinedCalls.{call_rows, calls_over}
use Rattle.pdb_module_data.specs.Procedures.{Procedure}
use Rattle.pdb_module_data.specs.declared.function_rows.LineRow.{LineRow}
use Rattle.pdb_module_data.specs.declared.inlined_calls.InlinedCall.{InlinedCall}
use Rattle.pdb_names.specs.Env.{Env}
use Rattle.pdb_owners.specs.Frames.{Frame}
use Rattle.pdb_resolving.specs.Fault.{Answers}
use Rattle.pdb_resolving.specs.declared.error.Error.{Error}
use Rattle.pdb_subsections.specs.declared.line_info.LineInfo.{LineInfo}
use Rattle.pdb_symbol_records.specs.Forms.{InlineSiteForm}

-- ---- rows and calls

-- the line program that was read
abbrev pub program_of : ExtendedModuleInfo → Program
program_of extended = (extended_seen extended).program

-- the rows of a procedure's inline sites, from the inlinees that were read
abbrev pub site_rows : ExtendedModuleInfo → Procedure → InlineSiteForm → List LineInfo
site_rows extended q = call_rows (extended_seen extended).inlinees q.offset

-- the calls of a procedure's sites over a place, innermost first
abbrev pub calls_among : ExtendedModuleInfo → Procedure → List Site → PdbInternalSectionOffset
    → List InlinedCall
calls_among extended q sites place = calls_over (site_rows extended q) sites place

-- a call gave the line row of a place in a chosen function, and the inlined calls over it
abbrev pub FindsCalls : ModuleData → ExtendedModuleInfo → Chosen → PdbInternalSectionOffset
    → Result (Option LineRow × Vec InlinedCall) Error → Type 0
FindsCalls known extended c place result = Answers (λ r. (r.0, r.1.items)) result
    (row_and_calls known.stream (extended_seen extended) c place)

-- ---- frames

-- a frame is the frame of an inlined call
abbrev pub IsCallFrame : Parts → Env → ExtendedModuleInfo → InlinedCall → Frame → Type 0
IsCallFrame p env extended call frame = frame ≡ call_frame p env (program_of extended) call

-- frames are the frames of inlined calls, in their order
abbrev pub AreOfCalls : Parts → Env → ExtendedModuleInfo → List InlinedCall → Vec Frame → Type 0
AreOfCalls p env extended calls frames =
    frames.items ≡ map (call_frame p env (program_of extended)) calls

-- a frame is the frame of a function that begins in a section, with its name and its line row
abbrev pub IsFunctionFrame : Parts → ExtendedModuleInfo → Option (List ℕ) → ℕ → Option LineRow
    → Frame → Type 0
IsFunctionFrame p extended name section row frame =
    frame ≡ function_frame p (program_of extended) name section row

-- a call gave the frames at a place in a chosen function, from its module's data
abbrev pub FramesInData : Parts → (ℕ → Env) → ModuleData → PlaceInFunction
    → Result (Vec Frame) Error → Type 0
FramesInData p env known at result = Answers (λ v. v.items) result
    (frames_in_data p (env at.module_index) known (chosen_seen at.chosen) at.place)

-- the same where the module may have no data
abbrev pub FramesIn : Parts → (ℕ → Env) → Option ModuleData → PlaceInFunction
    → Result (Vec Frame) Error → Type 0
FramesIn p env known at result = Answers (λ v. v.items) result
    (frames_in p (env at.module_index) known (chosen_seen at.chosen) at.place)

-- a call read the parts from which the frames at a place are made, whatever they are named by
abbrev pub ChecksFrames : Option ModuleData → Chosen → PdbInternalSectionOffset
    → Result (Unit {0}) Error → Type 0
ChecksFrames known c place result = (p : Parts) (env : Env)
    → Answers (λ _. nothing) result (frames_checked p env known c place)
