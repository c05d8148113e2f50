-- The optional debug header of the DBI stream (3): numbers of further streams.
-- The places are DBGTYPE of microsoft-pdb's langapi and those of LLVM's The PDB DBI Stream.
use Rattle.std.specs.Prelude.{ℕ, ◌*◌, ◌%◌, List, length, drop, ◌==◌, not, Option, Result, Ok, Err}
use Rattle.std.specs.Prelude.{codes}
use Rattle.std.specs.Int.{w16}
use Rattle.pdb_container.specs.Fault.{Fault, InvalidStreamLength, ◌>>=◌, refuse}
use Rattle.pdb_container.specs.Fields.{number_at}
use Rattle.pdb_symbols_modules.specs.Dbi.{Dbi}
use Rattle.pdb_symbols_modules.specs.Streams.{Streams, stream_if_named}

-- ---- the places of the numbers that are used, counted from 0

-- the place of the OMAP from addresses of the image to those of the database
abbrev pub to_source_place : ℕ
to_source_place = 3

-- the place of the OMAP back, from addresses of the database to those of the image
abbrev pub from_source_place : ℕ
from_source_place = 4

-- the place of the section headers of the image
abbrev pub sections_place : ℕ
sections_place = 5

-- the place of the section headers before the image's code was moved
abbrev pub original_sections_place : ℕ
original_sections_place = 10

-- ---- the numbers at these places

-- the number that is read, or another one where it isn't there
abbrev pub value_or : ℕ → Result (ℕ × List ℕ) Fault → ℕ
value_or other (Ok read) = read.0
value_or other (Err missing) = other

-- the number at a place of the optional header, counted from 0; a missing one is 65535, which names
-- no stream
unfoldable pub optional_at : ℕ → List ℕ → Result ℕ Fault
optional_at place bytes = do
  even ← refuse (not (length bytes % 2 == 0)) (InvalidStreamLength (codes "DbgDataHdr"))
  Ok (value_or 65535 (number_at w16 (drop (2 * place) bytes)))

-- the stream at a place, where one is named
unfoldable pub optional_stream : Streams → Dbi → ℕ → Result (Option (List ℕ)) Fault
optional_stream s d place = do
  n ← optional_at place d.optional_header
  stream_if_named s n
