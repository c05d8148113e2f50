-- The calls of a database: each as a function of its streams, with its first fault.
use Rattle.std.specs.Prelude.{ℕ, List, nat_lt, Option, Result}
use Rattle.pdb_container.specs.Fault.{Fault, GlobalSymbolsNotFound, ◌>>=◌, guard}
use Rattle.pdb_container.specs.StringTable.{names_of}
use Rattle.pdb_container_types.specs.Items.{Table, table_of}
use Rattle.pdb_addresses.specs.declared.sections.ImageSectionHeader.{ImageSectionHeader}
use Rattle.pdb_addresses.specs.Addresses.{Map}
use Rattle.pdb_symbols_modules.specs.ModuleStream.{ModuleStream}
use Rattle.pdb_symbols_modules.specs.AddressTables.{sections_by, original_sections_by, map_with}
use Rattle.pdb_symbols_modules.specs.AddressTables.{address_map_by}
use Rattle.pdb_symbols_modules.specs.Dbi.{Dbi, dbi_of}
use Rattle.pdb_symbols_modules.specs.Information.{Information, information_of}
use Rattle.pdb_symbols_modules.specs.Modules.{Module}
use Rattle.pdb_symbols_modules.specs.OptionalHeader.{optional_stream}
use Rattle.pdb_symbols_modules.specs.Shared.{Shared, named_number, optional_in, info_in}
use Rattle.pdb_symbols_modules.specs.Streams.{Bytes, Streams}

-- ---- streams that belong to no module

-- the information stream (1)
unfoldable pub information : Shared → Result Information Fault
information c = c.information >>= information_of

-- the DBI stream (3)
unfoldable pub debug_information : Shared → Result Dbi Fault
debug_information c = c.dbi >>= dbi_of

-- the table of types (TPI, stream 2)
unfoldable pub types : Shared → Result Table Fault
types c = c.types >>= table_of

-- the table of ids (IPI, stream 4)
unfoldable pub ids : Shared → Result Table Fault
ids c = c.ids >>= table_of

-- the names of files and modules
unfoldable pub names : Shared → Result (List ℕ) Fault
names c = c.names >>= names_of

-- the bytes of the symbol records, of which a database has to have a stream, by the stream's number
unfoldable pub global_symbols_by : ℕ → Bytes → Bytes
global_symbols_by n stream = do
  there ← guard (nat_lt n 65535) GlobalSymbolsNotFound
  stream

-- the bytes of the symbol records
unfoldable pub global_symbols : Shared → Bytes
global_symbols c = do
  d ← debug_information c
  global_symbols_by d.symbol_records_stream c.symbols

-- the sections of the image, where there is a list of them
unfoldable pub sections : Shared → Result (Option (List ImageSectionHeader)) Fault
sections c = do
  d ← debug_information c
  sections_by (optional_in c d)

-- the sections of the image and of the database, and the address map between them
unfoldable pub address_map : Shared → Result Map Fault
address_map c = do
  d ← debug_information c
  address_map_by (optional_in c d)

-- ---- streams by name, or by a module's entry

-- the bytes of the stream with a name
unfoldable pub named_stream : Streams → List ℕ → Bytes
named_stream s name = named_number name (s.at 1) >>= s.at

-- the content of a module's own stream, where it has one
unfoldable pub module_info : Streams → Module → Result (Option ModuleStream) Fault
module_info s m = info_in m (s.at m.stream)

-- ---- the same by the DBI

-- the bytes of the symbol records
abbrev pub symbols_in : Dbi → Streams → Bytes
symbols_in d s = global_symbols_by d.symbol_records_stream (s.at d.symbol_records_stream)

-- the stream that the optional header names at a place, if it names one
abbrev pub named_at : ℕ → Dbi → Streams → Result (Option (List ℕ)) Fault
named_at place d s = optional_stream s d place

-- the sections of the image, where there is a list of them
abbrev pub sections_in : Dbi → Streams → Result (Option (List ImageSectionHeader)) Fault
sections_in d s = sections_by (optional_stream s d)

-- the sections before the image's code was moved, where there is a list of them
abbrev pub originals_in : Dbi → Streams → Result (Option (List ImageSectionHeader)) Fault
originals_in d s = original_sections_by (optional_stream s d)

-- the sections of both spaces and the address map between them
abbrev pub address_map_in : Dbi → Streams → Result Map Fault
address_map_in d s = address_map_by (optional_stream s d)

-- the address map between sections of the image and of the database
abbrev pub map_in : List ImageSectionHeader → Option (List ImageSectionHeader) → Dbi → Streams
    → Result Map Fault
map_in image original d s = map_with (optional_stream s d) image original
