-- OMAPs, which say where a tool has moved an image's code: lists of a source and a target. The
-- layout is that of the pdb crate's OMAP records, which the Windows debugging interface has too.
use Rattle.std.specs.Prelude.{ℕ, zero, suc, ◌+◌, ◌-◌, ◌%◌, Bool, true, not, ◌&&◌, List, [], ◌∷◌}
use Rattle.std.specs.Prelude.{length, nat_le, ◌==◌, Option, None, Some, if◌then◌else◌, slice_get}
use Rattle.std.specs.Prelude.{option_and_then, option_map, Result, Ok, codes}
use Rattle.std.specs.Borrow.{Bor}
use Rattle.std.specs.Int.{w32}
use Rattle.std.specs.List.Sorted.{IsNonDecreasingBy}
use Rattle.pdb_container.specs.Fault.{Fault, InvalidStreamLength, ◌>>=◌, refuse}
use Rattle.pdb_container.specs.Fields.{Reader, number_at, entries}
use Rattle.pdb_addresses.specs.declared.omap.OMAPRecord.{OMAPRecord}
use Rattle.pdb_addresses.specs.Numbers.{in_32_bits}

-- an OMAP record, 8 bytes: the source, and the target
unfoldable pub omap_record_at : Reader OMAPRecord
omap_record_at bytes = do
  source ← number_at w32 bytes
  target ← number_at w32 source.1
  Ok (record { source_address = source.0; target_address = target.0 }, target.1)

-- the OMAP records of a stream, which is made of whole ones
unfoldable pub omap_of : List ℕ → Result (List OMAPRecord) Fault
omap_of bytes = do
  whole ← refuse (not (length bytes % 8 == 0)) (InvalidStreamLength (codes "OMAP"))
  entries omap_record_at bytes

-- the source of an OMAP record: the first address for which it counts
abbrev pub source : OMAPRecord → ℕ
source r = r.source_address

-- no source lies below the one before it
abbrev pub AreSourcesInOrder : List OMAPRecord → Type 0
AreSourcesInOrder records = IsNonDecreasingBy source records

-- whether no source lies below the one before it, and the first not below a number
abbrev pub rise_from : ℕ → List OMAPRecord → Bool
rise_from low [] = true
rise_from low (r ∷ records) = nat_le low r.source_address && rise_from r.source_address records

-- whether no source lies below the one before it
abbrev pub are_sources_in_order : List OMAPRecord → Bool
are_sources_in_order records = rise_from 0 records

-- the index of a record that is there or isn't, after that many others
abbrev pub record_number : ℕ → ℕ → ℕ
record_number first zero = first
record_number first (suc n) = suc (suc n)

-- The number of the last record with source at most an address, counted from 1; 0 where there is
-- none.
abbrev pub last_number : List OMAPRecord → ℕ → ℕ
last_number [] address = 0
last_number (r ∷ records) address = record_number (if nat_le r.source_address address then 1 else 0)
    (last_number records address)

-- the record with that index, counted from 1
abbrev pub record_at : List OMAPRecord → ℕ → Option OMAPRecord
record_at records number = if number == 0 then None else slice_get records (number - 1)

-- the address to which a record sends an address at or past its source: target 0 sends it nowhere
abbrev pub sent_by : ℕ → OMAPRecord → Option ℕ
sent_by address r =
    if r.target_address == 0 then None
    else in_32_bits (r.target_address + (address - r.source_address))

-- the address to which a map sends an address: by the last record with source at most it
abbrev pub sent : List OMAPRecord → ℕ → Option ℕ
sent records address = option_and_then (sent_by address)
    (record_at records (last_number records address))

-- A direction without a map keeps the number; one whose map is empty sends nothing anywhere.
abbrev pub translated : Option (List OMAPRecord) → ℕ → Option ℕ
translated None address = Some address
translated (Some records) address = sent records address

-- the records of a map, if there is one
abbrev pub records_of : Option (Bor (List OMAPRecord)) → Option (List OMAPRecord)
records_of omap = option_map (λ r. r.now) omap
