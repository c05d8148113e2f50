-- Ranges of addresses, and the ranges that they become.
use Rattle.std.specs.Prelude.{◌≡◌, ℕ, zero, suc, ◌+◌, ◌-◌, ◌^◌, List, [], ◌∷◌, map, nat_lt, ◌==◌}
use Rattle.std.specs.Prelude.{Option, None, Some, option_and_then, if◌then◌else◌}
use Rattle.std.specs.declared.ops.Range.{Range}
use Rattle.pdb_addresses.specs.declared.omap.OMAPRecord.{OMAPRecord}
use Rattle.pdb_addresses.specs.declared.rva.Rva.{Rva}
use Rattle.pdb_addresses.specs.declared.internal_rva.PdbInternalRva.{PdbInternalRva}
use Rattle.pdb_addresses.specs.Numbers.{image_address, internal_address}
use Rattle.pdb_addresses.specs.Omap.{last_number, translated}

-- the number of the record that an address goes by; 0 for all addresses where there is no map
abbrev pub number_for : Option (List OMAPRecord) → ℕ → ℕ
number_for None address = 0
number_for (Some records) address = last_number records address

-- a number, if it lies below a bound
abbrev pub below : ℕ → ℕ → Option ℕ
below bound n = if nat_lt n bound then Some n else None

-- the address that an address of a range becomes: 0xffffffff is left out, as is an address that is
-- sent nowhere
abbrev pub kept : Option (List OMAPRecord) → ℕ → Option ℕ
kept omap address = option_and_then (below (2 ^ 32 - 1)) (translated omap address)

-- consecutive addresses that others became, all by the record with that index
pub record TranslatedRun : Type 0 where
  pub number : ℕ
  pub start : ℕ
  pub end : ℕ

-- One more address before runs: it goes into the first run if that came by the same record;
-- otherwise it is a run of its own.
abbrev pub with_address : ℕ → Option ℕ → List TranslatedRun → List TranslatedRun
with_address number None runs = runs
with_address number (Some n) [] = record { number = number; start = n; end = n + 1 } ∷ []
with_address number (Some n) (r ∷ runs) =
    if number == r.number then record { number = number; start = n; end = r.end } ∷ runs
    else record { number = number; start = n; end = n + 1 } ∷ r ∷ runs

-- the runs that so many addresses from one on become, where each goes by a record and becomes
-- something or nothing
unfoldable pub runs_by : (ℕ → ℕ) → (ℕ → Option ℕ) → ℕ → ℕ → List TranslatedRun
runs_by number becomes from zero = []
runs_by number becomes from (suc count) =
    with_address (number from) (becomes from) (runs_by number becomes (from + 1) count)

-- the runs that a range becomes, address by address, all addresses that go by one record in one run
abbrev pub runs : Option (List OMAPRecord) → ℕ → ℕ → List TranslatedRun
runs omap start end = runs_by (number_for omap) (kept omap) start (end - start)

-- a run as addresses of the image
abbrev pub image_range : TranslatedRun → Range Rva
image_range r = record { start = image_address r.start; end = image_address r.end }

-- a run as internal addresses
abbrev pub internal_range : TranslatedRun → Range PdbInternalRva
internal_range r = record { start = internal_address r.start; end = internal_address r.end }

-- the addresses of the image that a range of internal addresses becomes
abbrev pub image_ranges : Option (List OMAPRecord) → ℕ → ℕ → List (Range Rva)
image_ranges omap start end = map image_range (runs omap start end)

-- the internal addresses that a range of addresses of the image becomes
abbrev pub internal_ranges : Option (List OMAPRecord) → ℕ → ℕ → List (Range PdbInternalRva)
internal_ranges omap start end = map internal_range (runs omap start end)

-- the values still to come, the next of them, and the values after it
abbrev pub GivesNext : {A : Type 0} → List A → Option A → List A → Type 0
GivesNext due None left = (due ≡ []) × (left ≡ [])
GivesNext due (Some next) left = due ≡ next ∷ left
