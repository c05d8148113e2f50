-- The state of a walk over a map, and its steps.
use Rattle.std.specs.Prelude.{◌≡◌, ℕ, ◌+◌, ◌-◌, ◌^◌, ◌≤◌, min, List, [], ◌∷◌, length, nat_lt}
use Rattle.std.specs.Prelude.{Option, None, Some, option_map, option_and_then, slice_get}
use Rattle.std.specs.Prelude.{if◌then◌else◌}
use Rattle.std.specs.List.{AllWithin}
use Rattle.std.specs.declared.ops.Range.{Range}
use Rattle.pdb_addresses.specs.declared.omap.OMAPRecord.{OMAPRecord}
use Rattle.pdb_addresses.specs.Addresses.{IsInOrder}
use Rattle.pdb_addresses.specs.Numbers.{in_32_bits}
use Rattle.pdb_addresses.specs.Omap.{source, record_at, sent_by}
use Rattle.pdb_addresses.specs.Ranges.{TranslatedRun, below}

-- that many records have their sources at most the address, and the others at or past it
pub record IsAtIn (records : List OMAPRecord) (number address : ℕ) : Type 0 where
  pub within : number ≤ length records
  pub before : AllWithin (λ r. source r ≤ address) records 0 number
  pub behind : AllWithin (λ r. address ≤ source r) records number (length records)

-- that many records of a map have their sources at most the address, and the others at or past it;
-- without a map none
abbrev pub IsAt : Option (List OMAPRecord) → ℕ → ℕ → Type 0
IsAt None number address = number ≡ 0
IsAt (Some records) number address = IsAtIn records number address

-- that many records have their sources at most the address, the others at or past it, and the
-- sources don't fall
pub record IsSteady (omap : Option (List OMAPRecord)) (number address : ℕ) : Type 0 where
  pub ordered : IsInOrder omap
  pub at : IsAt omap number address

-- the number of records that are left
abbrev pub left_of : Option (List OMAPRecord) → ℕ → ℕ
left_of None number = 0
left_of (Some records) number = length records - number

-- the source of the next record
abbrev pub next_source : Option (List OMAPRecord) → ℕ → Option ℕ
next_source None number = None
next_source (Some records) number = option_map source (slice_get records number)

-- the source of the next record, where it lies before an address
abbrev pub source_before : Option (List OMAPRecord) → ℕ → ℕ → Option ℕ
source_before omap number end = option_and_then (below end) (next_source omap number)

-- the address that so many addresses further becomes by the same record, from that of the first
abbrev pub sent_along : Option ℕ → ℕ → Option ℕ
sent_along first k = option_and_then (λ x. in_32_bits (x + k)) first

-- the address that an address becomes by the record with that index
abbrev pub sent_by_number : Option (List OMAPRecord) → ℕ → ℕ → Option ℕ
sent_by_number None number address = Some address
sent_by_number (Some records) number address =
    option_and_then (sent_by address) (record_at records number)

-- the addresses from one on and below a bound, if there are any
abbrev pub cut_run : ℕ → ℕ → ℕ → Option (Range ℕ)
cut_run bound count start =
    if nat_lt start (min (start + count) bound)
    then Some (record { start = start; end = min (start + count) bound })
    else None

-- the addresses that those from one on and before another become by the record with that index
abbrev pub run_between : Option (List OMAPRecord) → ℕ → ℕ → ℕ → Option (Range ℕ)
run_between omap number from stop = option_and_then (cut_run (2 ^ 32 - 1) (stop - from))
    (sent_by_number omap number from)

-- a run before others, if there is one
abbrev pub run_in_front : ℕ → Option (Range ℕ) → List TranslatedRun → List TranslatedRun
run_in_front number None others = others
run_in_front number (Some r) others =
    record { number = number; start = r.start; end = r.end } ∷ others

-- the next run, and the runs after it
abbrev pub GivesRun : List TranslatedRun → Option (Range ℕ) → List TranslatedRun → Type 0
GivesRun due None left = (due ≡ []) × (left ≡ [])
GivesRun due (Some r) left = (number : ℕ) × (due ≡ run_in_front number (Some r) left)
