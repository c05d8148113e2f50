-- The frames that are reported of the frames that were found, and the parts of each.
use Rattle.std.specs.Prelude.{ℕ, Bool, true, ◌+◌, ◌-◌, ◌==◌, nat_lt, nat_le, ◌&&◌, ◌||◌}
use Rattle.std.specs.Prelude.{if◌then◌else◌, List, [], ◌∷◌, ◌++◌, length, take, drop, map}
use Rattle.std.specs.Prelude.{Option, None, Some, option_map, unwrap_or}
use Rattle.pdb_owners.specs.Frames.{Frame, FunctionFrames}
use Rattle.pdb_owners.specs.declared.frames.FrameRow.{FrameRow}
use Rattle.pdb_llvm_protocol.specs.ReportedFrames.{ReportedFrame}
use Rattle.pdb_llvm_protocol.specs.declared.reported.Asked.{Asked}
use Rattle.pdb_llvm_protocol.specs.declared.reported.Asked.TheVariants as asked
use Rattle.pdb_llvm_protocol.specs.declared.reported.OwnFrame.{OwnFrame}
use Rattle.pdb_llvm_protocol.specs.declared.reported.ReportOptions.{ReportOptions}

-- a slash or a backslash
abbrev pub is_separator : ℕ → Bool
is_separator b = (b == 47) || (b == 92)

-- the name at the end of a path, where `name` is the text after the last separator so far
abbrev pub name_from : List ℕ → List ℕ → List ℕ
name_from name [] = name
name_from name (b ∷ bs) = if is_separator b then name_from bs bs else name_from name bs

-- the text after the last separator of a path
abbrev pub base_name : List ℕ → List ℕ
base_name path = name_from path path

-- a row of this length, if it is known, goes on past the address
abbrev pub goes_past : ℕ → ℕ → Option ℕ → Bool
goes_past address start None = true
goes_past address start (Some n) = nat_lt address (start + n)

-- the row begins in the function, and goes on past the address
abbrev pub is_own : ℕ → ℕ → FrameRow → Bool
is_own start address row =
    nat_le start row.start_rva && goes_past address row.start_rva row.length

-- the frame's line isn't left out: it comes from no row, or from one of the function's own
abbrev pub has_line : ℕ → ℕ → Option FrameRow → Bool
has_line start address None = true
has_line start address (Some row) = is_own start address row

-- a frame at an address in a function with this start
abbrev pub reported : Bool → ℕ → ℕ → Frame → ReportedFrame
reported base_names start address f =
    if has_line start address f.row
    then record {
      function = f.function;
      file = if base_names then option_map base_name f.file else f.file;
      line = unwrap_or f.line 0;
      column = 0;
    }
    else record { function = f.function; file = None; line = 0; column = 0 }

-- the inlined calls of the frames, which are all but the last
abbrev pub calls_of : List Frame → List Frame
calls_of frames = take (length frames - 1) frames

-- the function's own frame, which is the last
abbrev pub own_of : List Frame → List Frame
own_of frames = drop (length frames - 1) frames

-- the name of a function, if it has one
abbrev pub own_name : OwnFrame → Option (List ℕ)
own_name own = option_map (λ name. name.now) own.name

-- the function's own frame, under its name: a line has the column, 0 for none
abbrev pub named : OwnFrame → ReportedFrame → ReportedFrame
named own f =
    record {
      function = own_name own;
      file = f.file;
      line = f.line;
      column = if f.line == 0 then 0 else own.column;
    }

-- a function without file and line
abbrev pub function_alone : Option (List ℕ) → ReportedFrame
function_alone name = record { function = name; file = None; line = 0; column = 0 }

-- inlined calls at an address in a function with this start
abbrev pub calls_at : Bool → ℕ → ℕ → List Frame → List ReportedFrame
calls_at base_names start address calls = map (reported base_names start address) calls

-- the inlined calls, unless the function alone is asked for
abbrev pub calls_asked : Asked → List ReportedFrame → List ReportedFrame
calls_asked asked.All calls = calls
calls_asked asked.Innermost calls = calls
calls_asked asked.Outermost calls = []

-- ..of these at an address
abbrev pub asked_calls : ReportOptions → ℕ → ℕ → List Frame → List ReportedFrame
asked_calls o start address calls =
    calls_asked o.asked (calls_at o.base_names start address calls)

-- the frames that are asked for, of frames that are innermost first
abbrev pub kept_asked : Asked → List ReportedFrame → List ReportedFrame
kept_asked asked.All frames = frames
kept_asked asked.Innermost frames = take 1 frames
kept_asked asked.Outermost frames = frames

-- the frames of a function at an address: the inlined calls, and the function under its name
abbrev pub reported_frames : ReportOptions → OwnFrame → ℕ → FunctionFrames → List ReportedFrame
reported_frames o own a f =
    kept_asked o.asked
    (asked_calls o f.start_rva a (calls_of f.frames)
    ++ map (λ frame. named own (reported o.base_names f.start_rva a frame)) (own_of f.frames))

-- the frames that are reported for an address
abbrev pub reported_found : ReportOptions → OwnFrame → ℕ → Option FunctionFrames
    → List ReportedFrame
reported_found o own a None = function_alone (own_name own) ∷ []
reported_found o own a (Some f) = reported_frames o own a f
