-- The answer for an address of a file's image: its function with its frames. Each definition is
-- there three times: with the flags by which names are made and the order in which section
-- contributions have to stand; with the default flags, which are 23; and with these, where section
-- contributions have to stand in order.
use Rattle.std.specs.Prelude.{◌≡◌, ℕ, false, List, Option, None, Some, Result, Ok, Err}
use Rattle.pdb_addresses.specs.Addresses.{Map}
use Rattle.pdb_symbols_modules.specs.Machine.{machine_of}
use Rattle.pdb_symbols_modules.specs.Modules.{Module, modules_of}
use Rattle.pdb_symbols_modules.specs.Shared.{shared}
use Rattle.pdb_symbols_modules.specs.Streams.{Streams}
use Rattle.pdb_resolving.specs.Fault.{Fault}
use Rattle.pdb_resolving.specs.Resolving.{Provided, none_failed}
use Rattle.pdb_module_items.specs.Reading.{pointer_bytes}
use Rattle.pdb_addr2line.specs.Printing.{Formatting}
use Rattle.pdb_addr2line.specs.Choice.{Parts}
use Rattle.pdb_loading.specs.declared.order.ContributionOrder.{ContributionOrder}
use Rattle.pdb_loading.specs.declared.order.ContributionOrder.TheVariants.{InOrder}
use Rattle.pdb_frames.specs.Scopes.{Scope, scope_of, entries_of}
use Rattle.pdb_addr2line.specs.Context.{Context, scope_in}
pub use Rattle.pdb_addr2line.specs.ContextAnswers.{answer_of, function_of, database_in, keyed_in}
pub use Rattle.pdb_addr2line.specs.ContextAnswers.{frames_in, files_in, files_keyed_in}
use Rattle.pdb_owners.specs.Frames.{FunctionFrames}
use Rattle.pdb_frames.specs.Files.{files_of}
use Rattle.pdb_frames.specs.FrameRuns.{frames_of_places}
use Rattle.pdb_frames.specs.FramesAt.{frames, function}
use Rattle.pdb_owners.specs.FileAnswers.{FileAnswer}
use Rattle.pdb_frames.specs.Runs.{database_of}
use Rattle.pdb_owners.specs.Databases.{Database}
use Rattle.pdb_owners.specs.FunctionOrder.{Function}
use Rattle.pdb_loading.specs.Held.{given, names_in}
use Rattle.pdb_loading.specs.ModuleInfos.{KeptInfo, answered_at}
use Rattle.pdb_loading.specs.Loading.{LoadingFault, Loaded, loaded_with}

-- the answer of a file for the module with that index, whatever its entry; a fault says that it was
-- stored
abbrev pub given_in : Streams → Provided
given_in s number entry = given s number

-- the formatter of which names of types and ids are made, with these flags
abbrev pub formatting_in : ℕ → Streams → Loaded → Formatting Streams
formatting_in flags s l = record {
  reading = record {
    modules = record {
      provider = s;
      entries = (modules_of l.debug_information.modules).items;
      names = names_in s;
      failed = none_failed;
    };
    types = l.tables.types;
    ids = l.tables.ids;
    pointer_size = pointer_bytes (machine_of l.debug_information.machine);
  };
  flags = flags;
}

-- all that an answer in the module with that index depends on
unfoldable pub scope_named : ℕ → Streams → Loaded → ℕ → Scope
scope_named flags s l = scope_of given_in s (formatting_in flags s l)

abbrev pub scope : Streams → Loaded → ℕ → Scope
scope s l = scope_named 23 s l

-- the answer from what was loaded: nothing, or a function with its frames; a fault is that of the
-- first part of the module's data that can't be read
abbrev pub answer_by : ℕ → Streams → Result Loaded LoadingFault → ℕ
    → Result (Option FunctionFrames) Fault
answer_by flags s (Err e) a = Ok None
answer_by flags s (Ok l) a = frames l.parts (scope_named flags s l) a

-- the answer for an address of the image
unfoldable pub answer_named : ℕ → ContributionOrder → Streams → ℕ
    → Result (Option FunctionFrames) Fault
answer_named flags order s = answer_by flags s (loaded_with order (shared s))

abbrev pub answer_with : ContributionOrder → Streams → ℕ → Result (Option FunctionFrames) Fault
answer_with order s = answer_named 23 order s

abbrev pub answer : Streams → ℕ → Result (Option FunctionFrames) Fault
answer s = answer_with InOrder s

-- the function from what was loaded
abbrev pub function_by : ℕ → Streams → Result Loaded LoadingFault → ℕ → Option Function
function_by flags s (Err e) a = None
function_by flags s (Ok l) a = function l.parts (scope_named flags s l) a

-- the function at an address of the image
unfoldable pub function_named : ℕ → ContributionOrder → Streams → ℕ → Option Function
function_named flags order s = function_by flags s (loaded_with order (shared s))

abbrev pub function_with : ContributionOrder → Streams → ℕ → Option Function
function_with order s = function_named 23 order s

abbrev pub function_at : Streams → ℕ → Option Function
function_at s = function_with InOrder s

-- the functions at places, and where they may change, from what was loaded
abbrev pub database_by : ℕ → Streams → Result Loaded LoadingFault → Database Function
database_by flags s (Err e) = record { answer = λ place. None; is_bound = λ place. false }
database_by flags s (Ok l) = database_of l.parts (scope_named flags s l)

-- the functions at places of the file's sections, and where they may change
unfoldable pub database_named : ℕ → ContributionOrder → Streams → Database Function
database_named flags order s = database_by flags s (loaded_with order (shared s))

abbrev pub database_with : ContributionOrder → Streams → Database Function
database_with order s = database_named 23 order s

abbrev pub database : Streams → Database Function
database s = database_with InOrder s

-- the frames at places, and where they may change, from what was loaded
abbrev pub frames_by : ℕ → Streams → Result Loaded LoadingFault → Database (Option FunctionFrames)
frames_by flags s (Err e) = record { answer = λ place. None; is_bound = λ place. false }
frames_by flags s (Ok l) = frames_of_places l.parts (scope_named flags s l)

-- the frames at places of the file's sections, and where they may change; a function whose frames
-- can't be read has none
unfoldable pub frames_named : ℕ → ContributionOrder → Streams → Database (Option FunctionFrames)
frames_named flags order s = frames_by flags s (loaded_with order (shared s))

-- the files at places, and where they may change, from what was loaded
abbrev pub files_by : ℕ → Streams → Result Loaded LoadingFault → Database FileAnswer
files_by flags s (Err e) = record { answer = λ place. None; is_bound = λ place. false }
files_by flags s (Ok l) = files_of l.parts (scope_named flags s l)

-- the source files at places of the file's sections, and where they may change
unfoldable pub files_named : ℕ → ContributionOrder → Streams → Database FileAnswer
files_named flags order s = files_by flags s (loaded_with order (shared s))

abbrev pub files_with : ContributionOrder → Streams → Database FileAnswer
files_with order s = files_named 23 order s

abbrev pub files : Streams → Database FileAnswer
files s = files_with InOrder s

-- all that a list of functions goes over: the parts that each question goes over, the scope of each
-- module, and the modules' entries in order
pub record Listing : Type 0 where
  pub parts : Parts
  pub scope : ℕ → Scope
  pub entries : List Module

-- all that the list of functions goes over, from what was loaded
abbrev pub listing_by : ℕ → Streams → Result Loaded LoadingFault → Option Listing
listing_by flags s (Err e) = None
listing_by flags s (Ok l) = Some (record {
  parts = l.parts;
  scope = scope_named flags s l;
  entries = (modules_of l.debug_information.modules).items;
})

-- all that the list of the file's functions goes over; none where the file isn't loaded
unfoldable pub listing_named : ℕ → ContributionOrder → Streams → Option Listing
listing_named flags order s = listing_by flags s (loaded_with order (shared s))

abbrev pub listing_with : ContributionOrder → Streams → Option Listing
listing_with order s = listing_named 23 order s

abbrev pub listing : Streams → Option Listing
listing s = listing_with InOrder s

-- the address map, from what was loaded
abbrev pub map_by : Result Loaded LoadingFault → Option Map
map_by (Err e) = None
map_by (Ok l) = Some l.tables.map

-- the map between addresses of the image and places in sections; none where the file isn't loaded
unfoldable pub map_with : ContributionOrder → Streams → Option Map
map_with order s = map_by (loaded_with order (shared s))

abbrev pub address_map : Streams → Option Map
address_map s = map_with InOrder s

-- ---- by a context

-- the answer of stored modules for the module with that index, whatever its entry
abbrev pub answered_in : List KeptInfo → Provided
answered_in infos number entry = answered_at infos number

-- all that the list of a context's functions goes over
abbrev pub listing_of : {P : Type 0} → (P → Provided) → Context P → Listing
listing_of provided c = record {
  parts = c.parts;
  scope = scope_in provided c;
  entries = entries_of c.formatting;
}

-- A context answers as the file does, whose names are made with these flags and whose section
-- contributions have to stand in this order, and lists the file's functions.
pub record AnswersNamed (flags : ℕ) (order : ContributionOrder) {P : Type 0}
    (provided : P → Provided) (s : Streams) (c : Context P) : Type 0 where
  pub frames : answer_of provided c ≡ answer_named flags order s
  pub functions : function_of provided c ≡ function_named flags order s
  pub places : database_in provided c ≡ database_named flags order s
  pub by_frames : frames_in provided c ≡ frames_named flags order s
  pub by_file : files_in provided c ≡ files_named flags order s
  pub list : Some (listing_of provided c) ≡ listing_named flags order s

-- A context answers as the file does where section contributions have to stand in this order, and
-- lists the file's functions.
abbrev pub AnswersWith : ContributionOrder → {P : Type 0} → (P → Provided) → Streams → Context P
    → Type 0
AnswersWith order provided s c = AnswersNamed 23 order provided s c

-- A context answers as the file does, and lists the file's functions.
abbrev pub AnswersAs : {P : Type 0} → (P → Provided) → Streams → Context P → Type 0
AnswersAs provided s c = AnswersWith InOrder provided s c
