-- A file as its numbered streams. Nothing here and above speaks of pages.
use Rattle.std.specs.Prelude.{ℕ, List, Option, Some, None, Result, Ok, Err, nat_lt, if◌then◌else◌}
use Rattle.pdb_container.specs.Fault.{Fault, ◌>>=◌}
use Rattle.pdb_container.specs.Container.{layout_of, stream}

-- the bytes of a stream, or the fault of reading them
abbrev pub Bytes : Type 0
Bytes = Result (List ℕ) Fault

-- a file as numbered streams: whether it opens, and each stream's bytes or its fault
pub record Streams : Type 0 where
  -- the fault for which the container isn't opened
  pub open_fault : Option Fault
  pub at : ℕ → Bytes

-- the fault of a reading, if it has one
abbrev pub fault_in : {A F : Type 0} → Result A F → Option F
fault_in (Ok x) = None
fault_in (Err e) = Some e

-- the numbered streams of a file's bytes
unfoldable pub streams : List ℕ → Streams
streams file = record { open_fault = fault_in (layout_of file); at = λ n. stream file n None }

-- the bytes of the stream with that index, where it names one: 65535 names none
unfoldable pub if_named : ℕ → Bytes → Result (Option (List ℕ)) Fault
if_named n stream = if nat_lt n 65535 then stream >>= (λ bytes. Ok (Some bytes)) else Ok None

-- the bytes of the stream with that index, where it names one
abbrev pub stream_if_named : Streams → ℕ → Result (Option (List ℕ)) Fault
stream_if_named s n = if_named n (s.at n)
