-- Functions with their places.
use Rattle.std.specs.Prelude.{◌≡◌, ℕ, ◌-◌, List, length, map, option_and_then, option_map}
use Rattle.std.specs.Prelude.{Option, None, Some, Result, Ok, Err, slice_get, string_bytes}
use Rattle.pdb_addr2line.specs.Context.{Context, scope_in}
use Rattle.pdb_owners.specs.Frames.{Frame, FunctionFrames}
use Rattle.pdb_owners.specs.FunctionOrder.{Function}
use Rattle.pdb_frames.specs.FramesAt.{frames}
use Rattle.pdb_frames.specs.Scopes.{entries_of}
use Rattle.pdb_addr2line.specs.FunctionList.{AreFunctions}
use Rattle.pdb_listings.specs.declared.functions.FunctionRow.{FunctionRow}
use Rattle.pdb_resolving.specs.Fault.{Fault}
use Rattle.pdb_resolving.specs.Resolving.{Provided}

-- the function's own frame among the frames at an address: the last one, if they can be read
abbrev pub own_frame : Result (Option FunctionFrames) Fault → Option Frame
own_frame (Ok (Some found)) = slice_get found.frames (length found.frames - 1)
own_frame (Ok None) = None
own_frame (Err e) = None

-- frames at an address, as they are read
abbrev pub FramesRead : Type 0
FramesRead = Result (Option FunctionFrames) Fault

-- Frames have the function's own one of the frames that were read, if these can be read.
abbrev pub HaveOwnFrame : FramesRead → Option FunctionFrames → Type 0
HaveOwnFrame read found = own_frame (Ok found) ≡ own_frame read

-- a function with a file and a line, if these are known
pub record Row : Type 0 where
  pub function : Function
  pub file : Option (List ℕ)
  pub line : Option ℕ

-- a function with the place that frames have of it
abbrev pub row_by : Function → Option Frame → Row
row_by f frame = record {
  function = f;
  file = option_and_then (λ (it : Frame). it.file) frame;
  line = option_and_then (λ (it : Frame). it.line) frame;
}

-- a function with the place at its start
abbrev pub row_in : {P : Type 0} → (P → Provided) → Context P → Function → Row
row_in provided c f =
    row_by f (own_frame (frames c.parts (scope_in provided c) f.start_rva))

-- a row as it is returned
abbrev pub row_seen : FunctionRow → Row
row_seen row = record {
  function = row.function;
  file = option_map string_bytes row.file;
  line = row.line;
}

-- These are the functions of a context, in the order of their addresses.
abbrev pub AreListed : {P : Type 0} → (P → Provided) → Context P → List Function → Type 0
AreListed provided c functions =
    AreFunctions c.parts (scope_in provided c) (entries_of c.formatting) functions

-- These rows are of the functions that a context lists, each with its place as another context has
-- it.
abbrev pub AreRows : {P : Type 0} → (P → Provided) → Context P → Context P → List FunctionRow
    → Type 0
AreRows provided lister c rows = (functions : List Function) × AreListed provided lister functions
    × (map row_seen rows ≡ map (row_in provided c) functions)
