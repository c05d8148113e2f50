-- The frames at an address, as a symbol file tells them.
use Rattle.std.specs.Prelude.{ℕ, ◌++◌, List, [], ◌∷◌, Option, None, Some, unwrap_or}
use Rattle.pdb_owners.specs.Frames.{Frame}
use Rattle.pdb_symbol_files.specs.Texts.{told_text}
use Rattle.pdb_symbol_files.specs.Told.{Call, Told}

-- the call by which the function of a frame called the function of another, inlined
abbrev pub call_of : Frame → Frame → Call
call_of caller callee = record {
  file = told_text caller.file;
  line = unwrap_or caller.line 0;
  callee = told_text callee.function;
}

-- the inlined calls of a frame and the frames around it, innermost first; the outermost call comes
-- first
abbrev pub calls_over : Frame → List Frame → List Call
calls_over f [] = []
calls_over f (g ∷ frames) = calls_over g frames ++ call_of g f ∷ []

-- the calls of frames, innermost first
abbrev pub calls_of : List Frame → List Call
calls_of [] = []
calls_of (f ∷ frames) = calls_over f frames

-- the outermost of a frame and the frames around it
abbrev pub outermost : Frame → List Frame → Frame
outermost f [] = f
outermost f (g ∷ frames) = outermost g frames

-- what is told of frames, innermost first, in a function that begins at an address
abbrev pub told_of : Option ℕ → List Frame → Option Told
told_of start [] = None
told_of start (f ∷ frames) = Some (record {
  start = start;
  function = told_text (outermost f frames).function;
  calls = calls_over f frames;
  file = told_text f.file;
  line = unwrap_or f.line 0;
})
