-- The answers for a database's addresses, as a symbol file tells them.
use Rattle.std.specs.Prelude.{◌≡◌, ◌<◌, ℕ, ◌-◌, Bool, true, false, List, drop, length, Option, None, Some}
use Rattle.std.specs.Prelude.{option_map}
use Rattle.pdb_addresses.specs.Places.{Place}
use Rattle.pdb_addr2line.specs.Context.{Context}
use Rattle.pdb_addr2line.specs.Answer.{answer_named, answered_in, database_in, database_named}
use Rattle.pdb_addr2line.specs.Answer.{frames_in, frames_named, function_named}
use Rattle.pdb_addr2line.specs.FileAnswers.{FileAnswers}
use Rattle.pdb_addr2line.specs.FileFrames.{found_by}
use Rattle.pdb_frames.specs.FrameRuns.{readable}
use Rattle.pdb_owners.specs.Databases.{Database, on}
use Rattle.pdb_owners.specs.Frames.{Frame, FunctionFrames}
use Rattle.pdb_owners.specs.FunctionOrder.{Function}
use Rattle.pdb_loading.specs.ModuleInfos.{KeptInfo}
use Rattle.pdb_loading.specs.declared.order.ContributionOrder.{ContributionOrder}
use Rattle.pdb_symbol_files.specs.Frames.{told_of}
use Rattle.pdb_symbol_files.specs.Told.{Told}
use Rattle.pdb_symbol_files.specs.declared.told_runs.ToldRun.{ToldRun}
use Rattle.pdb_symbols_modules.specs.Streams.{Streams, streams}

-- frames, innermost first, with inlined calls; or the outermost one alone
abbrev pub frames_shown : Bool → List Frame → List Frame
frames_shown true frames = frames
frames_shown false frames = drop (length frames - 1) frames

-- the start of a function, if there is one
abbrev pub start_of : Option Function → Option ℕ
start_of function = option_map (λ f. f.start_rva) function

-- what is told of frames that were found, in a function that begins at an address, if it is known
abbrev pub told_found : Bool → Option ℕ → Option FunctionFrames → Option Told
told_found inlines start None = None
told_found inlines start (Some found) = told_of start (frames_shown inlines found.frames)

-- what is told of an address: of its frames, as the report on lines has them, in the function that
-- is found there; nothing where the frames can't be read
abbrev pub told_named : Bool → ℕ → ContributionOrder → Streams → ℕ → Option Told
told_named inlines flags order s a =
    told_found inlines (start_of (function_named flags order s a))
    (readable (answer_named flags order s a))

-- what is told of a place, from the functions and the frames at places
abbrev pub told_place : Bool → Database Function → Database (Option FunctionFrames) → Place
    → Option Told
told_place inlines functions frames p =
    told_found inlines (start_of (functions.answer p)) (found_by (frames.answer p))

-- the same from a context's answers
abbrev pub told_place_in : Bool → Context (List KeptInfo) → Place → Option Told
told_place_in inlines c p =
    told_place inlines (database_in answered_in c) (frames_in answered_in c) p

-- the same from a file that is read on demand
abbrev pub told_place_by : Bool → FileAnswers → Place → Option Told
told_place_by inlines f p =
    told_place inlines (database_named f.flags f.order (streams f.contents))
    (frames_named f.flags f.order (streams f.contents)) p

-- a run has what is told of each of its places, from one on
abbrev pub TellsPlaces : (Place → Option Told) → Place → ToldRun → Type 0
TellsPlaces told p run = (k : ℕ) → k < run.count → told (on p k) ≡ run.told
