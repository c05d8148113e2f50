-- The addresses at which the answer may differ from the one before, so that a database is looked up
-- again.
use Rattle.std.specs.Prelude.{◌≡◌, ℕ, ◌-◌, ◌*◌, ◌<◌, ◌≤◌, Bool, true, false, ◌||◌, List, Option}
use Rattle.std.specs.Prelude.{None, Some, Result, Ok, Err}
use Rattle.pdb_addresses.specs.Addresses.{Map, inner_place}
use Rattle.pdb_addresses.specs.PlaceRun.{breaks}
use Rattle.pdb_addresses.specs.Places.{Place}
use Rattle.pdb_addr2line.specs.Context.{Context}
use Rattle.pdb_addr2line.specs.Answer.{answered_in, database_in, database_named, frames_in}
use Rattle.pdb_addr2line.specs.Answer.{frames_named, map_with}
use Rattle.pdb_addr2line.specs.FileAnswers.{FileAnswers}
use Rattle.pdb_loading.specs.Loading.{Loaded, LoadingFault, loaded_with}
use Rattle.pdb_loading.specs.ModuleInfos.{KeptInfo}
use Rattle.pdb_loading.specs.declared.order.ContributionOrder.{ContributionOrder}
use Rattle.pdb_loading.specs.declared.order.ContributionOrder.TheVariants.{Any}
use Rattle.pdb_owners.specs.Counts.{is_bound_in}
use Rattle.pdb_owners.specs.Databases.{Database, on}
use Rattle.pdb_owners.specs.Frames.{FunctionFrames}
use Rattle.pdb_owners.specs.FunctionOrder.{Function}
use Rattle.pdb_symbol_files.specs.Code.{pieces_of_code}
use Rattle.pdb_symbol_files.specs.declared.told_runs.ToldRun.{ToldRun}
use Rattle.pdb_symbols_modules.specs.Shared.{shared}
use Rattle.pdb_symbols_modules.specs.Streams.{Streams, streams}

-- ---- places

-- a place is a bound of the functions, or of the frames
abbrev pub is_bound_of : Database Function → Database (Option FunctionFrames) → Place → Bool
is_bound_of functions frames p = functions.is_bound p || frames.is_bound p

-- the same from a context's answers
abbrev pub is_bound_for : Context (List KeptInfo) → Place → Bool
is_bound_for c p = is_bound_of (database_in answered_in c) (frames_in answered_in c) p

-- the same from a file that is read on demand
abbrev pub is_bound_by : FileAnswers → Place → Bool
is_bound_by f p =
    is_bound_of (database_named f.flags f.order (streams f.contents))
    (frames_named f.flags f.order (streams f.contents)) p

-- a run from a place on goes on to a limit, or to a bound
abbrev pub EndsAtBound : (Place → Bool) → Place → ℕ → ToldRun → Type 0
EndsAtBound is_bound p limit run = run.count < limit → is_bound (on p run.count) ≡ true

-- ---- addresses

-- a piece begins at an address: places may no longer follow one another, or its place is a bound of
-- the functions or of the frames
abbrev pub begins_by : Map → Database Function → Database (Option FunctionFrames) → ℕ → Bool
begins_by m functions frames a =
    breaks m a
    || (is_bound_in functions (inner_place m a) || is_bound_in frames (inner_place m a))

abbrev pub begins_if : Option Map → Database Function → Database (Option FunctionFrames) → ℕ → Bool
begins_if None functions frames a = false
begins_if (Some m) functions frames a = begins_by m functions frames a

-- the same from a file's streams; nowhere in a file that isn't loaded
unfoldable pub begins_named : ℕ → ContributionOrder → Streams → ℕ → Bool
begins_named flags order s a =
    begins_if (map_with order s) (database_named flags order s) (frames_named flags order s) a

-- the same from a file that is read on demand
abbrev pub begins_of : FileAnswers → ℕ → Bool
begins_of f = begins_named f.flags f.order (streams f.contents)

-- the number of pieces of the addresses at which code may run, from what was loaded of a file
abbrev pub pieces_by : Streams → Result Loaded LoadingFault → ℕ
pieces_by s (Ok l) = pieces_of_code l.tables.map.image (begins_named 23 Any s)
pieces_by s (Err e) = 0

-- the number of pieces of the addresses of a file at which code may run; 0 for a file that isn't
-- loaded
unfoldable pub pieces_in : Streams → ℕ
pieces_in s = pieces_by s (loaded_with Any (shared s))

-- ---- counts

-- so many lookups are at most two for each piece of a file
abbrev pub AreFewLookups : List ℕ → ℕ → Type 0
AreFewLookups file lookups = lookups ≤ 2 * pieces_in (streams file)

-- the rise of a context's count of lookups
abbrev pub rise : Option (Context (List KeptInfo)) → Option (Context (List KeptInfo)) → ℕ
rise (Some old) (Some new) = new.lookups - old.lookups
rise (Some old) None = 0
rise None new = 0
