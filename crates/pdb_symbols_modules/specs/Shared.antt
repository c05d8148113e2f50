-- The streams that belong to no module, each with its fault, and the content of each module.
use Rattle.std.specs.Prelude.{ℕ, ◌==◌, List, Option, None, Some, option_map, nat_lt, if◌then◌else◌}
use Rattle.std.specs.Prelude.{slice_get, Result, Ok, Err, codes}
use Rattle.pdb_container.specs.Fault.{Fault, StreamNotFound, ◌>>=◌}
use Rattle.pdb_container.specs.Listing.{whole}
use Rattle.pdb_symbols_modules.specs.ModuleStream.{ModuleStream}
use Rattle.pdb_symbols_modules.specs.Dbi.{Dbi, dbi_of}
use Rattle.pdb_symbols_modules.specs.Information.{information_of, stream_names_of, number_of}
use Rattle.pdb_symbols_modules.specs.Modules.{Module, modules_of}
use Rattle.pdb_symbols_modules.specs.OptionalHeader.{optional_at, to_source_place}
use Rattle.pdb_symbols_modules.specs.OptionalHeader.{from_source_place, sections_place}
use Rattle.pdb_symbols_modules.specs.OptionalHeader.{original_sections_place}
use Rattle.pdb_symbols_modules.specs.Streams.{Bytes, Streams, if_named}

-- ---- numbers that name streams

-- a number that names a stream: 65535 names none
abbrev pub number : ℕ → Result ℕ Fault
number n = if nat_lt n 65535 then Ok n else Err (StreamNotFound 65535)

-- a number that was read, if it names a stream
unfoldable pub named : Result ℕ Fault → Result ℕ Fault
named read = read >>= number

-- the number of the stream to which the database gives a name, from the bytes of stream 1
unfoldable pub named_number : List ℕ → Bytes → Result ℕ Fault
named_number name information = named do
  own ← information >>= information_of
  entries ← stream_names_of own.bytes
  number_of name entries

-- the number of the stream of the names of files and modules
abbrev pub names_number : Bytes → Result ℕ Fault
names_number information = named_number (codes "/names") information

-- the number of the stream of the symbol records, from the bytes of stream 3
unfoldable pub symbols_number : Bytes → Result ℕ Fault
symbols_number dbi = named do
  d ← dbi >>= dbi_of
  Ok d.symbol_records_stream

-- the number of the stream at a place of the optional header
unfoldable pub optional_number : ℕ → Bytes → Result ℕ Fault
optional_number place dbi = named do
  d ← dbi >>= dbi_of
  optional_at place d.optional_header

-- ---- streams that belong to no module

-- streams 1 to 4, and the streams to which they lead
pub record Shared : Type 0 where
  pub open_fault : Option Fault
  pub information : Bytes
  pub types : Bytes
  pub dbi : Bytes
  pub ids : Bytes
  pub names : Bytes
  pub symbols : Bytes
  pub to_source : Bytes
  pub from_source : Bytes
  pub section_headers : Bytes
  pub original_sections : Bytes

-- the streams of a file that belong to no module
unfoldable pub shared : Streams → Shared
shared s = record {
  open_fault = s.open_fault;
  information = s.at 1;
  types = s.at 2;
  dbi = s.at 3;
  ids = s.at 4;
  names = names_number (s.at 1) >>= s.at;
  symbols = symbols_number (s.at 3) >>= s.at;
  to_source = optional_number to_source_place (s.at 3) >>= s.at;
  from_source = optional_number from_source_place (s.at 3) >>= s.at;
  section_headers = optional_number sections_place (s.at 3) >>= s.at;
  original_sections = optional_number original_sections_place (s.at 3) >>= s.at;
}

-- the bytes of the stream at one of the four places of the optional header
abbrev pub optional_bytes : Shared → ℕ → Bytes
optional_bytes c place =
    if place == to_source_place then c.to_source
    else (if place == from_source_place then c.from_source
    else (if place == sections_place then c.section_headers else c.original_sections))

-- the stream at one of these places, where one is named
unfoldable pub optional_in : Shared → Dbi → ℕ → Result (Option (List ℕ)) Fault
optional_in c d place = do
  n ← optional_at place d.optional_header
  if_named n (optional_bytes c place)

-- ---- modules

-- the module with that index, counted from 0, by the bytes of stream 3; none past the list
unfoldable pub module_of_number : Bytes → ℕ → Result (Option Module) Fault
module_of_number dbi k = do
  d ← dbi >>= dbi_of
  modules ← whole (modules_of d.modules)
  Ok (slice_get modules k)

-- the number of a module's stream; past the list there is none
abbrev pub number_of_module : Option Module → ℕ
number_of_module None = 65535
number_of_module (Some m) = m.stream

-- the number of the stream of a module, if it names one
unfoldable pub module_number : Bytes → ℕ → Result ℕ Fault
module_number dbi k = named do
  m ← module_of_number dbi k
  Ok (number_of_module m)

-- the bytes of a module's own stream
unfoldable pub module_bytes : Streams → ℕ → Bytes
module_bytes s k = module_number (s.at 3) k >>= s.at

-- a module's own stream, with the sizes of its parts
abbrev pub module_stream : Module → List ℕ → ModuleStream
module_stream m bytes =
    record {
      bytes = bytes;
      symbols_size = m.symbols_size;
      c11_lines_size = m.c11_lines_size;
      c13_lines_size = m.c13_lines_size;
    }

-- the content of a module, by its entry and its stream, where it names one
unfoldable pub info_in : Module → Bytes → Result (Option ModuleStream) Fault
info_in m stream = do
  found ← if_named m.stream stream
  Ok (option_map (module_stream m) found)

-- the content of a module, if it is in the list
abbrev pub info_if_listed : Bytes → Option Module → Result (Option ModuleStream) Fault
info_if_listed stream None = Ok None
info_if_listed stream (Some m) = info_in m stream

-- the content of the module with that index, from the bytes of stream 3 and of its own stream
unfoldable pub info_from : Bytes → ℕ → Bytes → Result (Option ModuleStream) Fault
info_from dbi k stream = module_of_number dbi k >>= info_if_listed stream

-- The content of each module of a file by its number: none past the list and for a module without a
-- stream; the fault of stream 3 or of the module's stream.
abbrev pub Provider : Type 0
Provider = ℕ → Result (Option ModuleStream) Fault

-- the content of each module of a file
unfoldable pub provider : Streams → Provider
provider s k = info_from (s.at 3) k (module_bytes s k)
