-- The answers for the addresses of ranges, and of runs; and the number of pieces of ranges.
use Rattle.std.specs.Prelude.{◌≡◌, ℕ, ◌+◌, ◌-◌, ◌<◌, ◌≤◌, ◌||◌, ◌==◌, Bool, true, List, Option}
use Rattle.std.specs.List.{flat_map, sum_by}
use Rattle.pdb_owners.specs.Counts.{how_many}
use Rattle.pdb_symbol_files.specs.Code.{answers_along}
use Rattle.pdb_symbol_files.specs.declared.addresses.AddressRange.{AddressRange}
use Rattle.pdb_symbol_files.specs.declared.told_runs.ToldRun.{ToldRun}
use Rattle.pdb_symbol_files.specs.Told.{Answer, Told}

-- the answers for the addresses of a range
abbrev pub answers_of_range : (ℕ → Option Told) → AddressRange → List Answer
answers_of_range told r = answers_along told r.start (r.end - r.start)

-- the answers for the addresses of ranges, one range after the other
abbrev pub answers_of_ranges : (ℕ → Option Told) → List AddressRange → List Answer
answers_of_ranges told ranges = flat_map (λ r. answers_of_range told r) ranges

-- a run has what is told of each of its addresses, from one on
abbrev pub TellsRun : (ℕ → Option Told) → ℕ → ToldRun → Type 0
TellsRun told address run =
    (a : ℕ) → address ≤ a → a < address + run.count → told a ≡ run.told

-- ---- pieces, where a test says at which addresses one may begin

-- a piece begins at the first address of a range, and at each one that passes
abbrev pub begins_in : (ℕ → Bool) → AddressRange → ℕ → Bool
begins_in begins r address = (address == r.start) || begins address

-- the number of pieces of a range
abbrev pub pieces_of_range : (ℕ → Bool) → AddressRange → ℕ
pieces_of_range begins r = how_many (begins_in begins r) r.start (r.end - r.start)

-- the number of pieces of ranges
abbrev pub pieces_of_ranges : (ℕ → Bool) → List AddressRange → ℕ
pieces_of_ranges begins ranges = sum_by (λ r. pieces_of_range begins r) ranges

-- a run from an address on goes on to an end, or to where a piece begins
abbrev pub EndsPiece : (ℕ → Bool) → ℕ → ℕ → ToldRun → Type 0
EndsPiece begins address end run =
    address + run.count < end → begins (address + run.count) ≡ true
