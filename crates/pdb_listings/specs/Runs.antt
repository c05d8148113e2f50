-- Addresses as they are counted, and the line at each.
use Rattle.std.specs.Prelude.{◌≡◌, ℕ, ◌+◌, ◌<◌, List, Option, None, Some, option_map, slice_get}
use Rattle.std.specs.Prelude.{if◌then◌else◌, string_bytes}
use Rattle.pdb_addresses.specs.Addresses.{Map, inner, inner_place}
use Rattle.pdb_addresses.specs.Places.{Place}
use Rattle.pdb_addresses.specs.SectionRun.{place_on}
use Rattle.pdb_addr2line.specs.Context.{Context, scope_in}
use Rattle.pdb_frames.specs.FrameRuns.{readable}
use Rattle.pdb_frames.specs.FramesAt.{frames}
use Rattle.pdb_owners.specs.Counts.{is_last}
use Rattle.pdb_owners.specs.Frames.{Frame, FunctionFrames}
use Rattle.pdb_resolving.specs.Resolving.{Provided}
use Rattle.pdb_listings.specs.declared.line_runs.Line.{Line as LineFound}

-- the place of an address as it is counted: one that becomes 0xffffffff has none
abbrev pub counted_place : Map → ℕ → Option Place
counted_place m a = if is_last (inner m a) then None else inner_place m a

-- The places of so many addresses from one on follow one another from a place on, or are missing.
abbrev pub ArePlacesFrom : Map → ℕ → ℕ → Option Place → Type 0
ArePlacesFrom m a count place = (k : ℕ) → k < count → counted_place m (a + k) ≡ place_on k place

-- a line: a file and a number, if these are known
pub record Line : Type 0 where
  pub file : Option (List ℕ)
  pub line : Option ℕ

-- a frame's line
abbrev pub line_of : Frame → Line
line_of f = record { file = f.file; line = f.line }

-- the line of the innermost of frames, if there are some
abbrev pub line_in : Option FunctionFrames → Option Line
line_in None = None
line_in (Some found) = option_map line_of (slice_get found.frames 0)

-- the line at an address, as frames say: the innermost frame's; none where there is no function,
-- and where frames can't be read
abbrev pub line_at : {P : Type 0} → (P → Provided) → Context P → ℕ → Option Line
line_at provided c a = line_in (readable (frames c.parts (scope_in provided c) a))

-- the same for an address as it is counted
abbrev pub counted_line : {P : Type 0} → (P → Provided) → Context P → ℕ → Option Line
counted_line provided c a =
    if is_last (inner (c.parts).map a) then None else line_at provided c a

-- a line as it is returned
abbrev pub line_seen : LineFound → Line
line_seen l = record { file = option_map string_bytes l.file; line = l.line }

-- The line that was found is the line of so many addresses from one on, as they are counted.
abbrev pub IsLineRun : {P : Type 0} → (P → Provided) → Context P → ℕ → Option LineFound × ℕ → Type 0
IsLineRun provided c a run = (k : ℕ) → k < run.1
    → counted_line provided c (a + k) ≡ option_map line_seen run.0
