-- The DBI stream (3): its header, and the substreams after it. The layout is NewDBIHdr of
-- microsoft-pdb's dbi.h, which LLVM's The PDB DBI Stream describes.
use Rattle.std.specs.Prelude.{ℕ, ◌+◌, List, length, take, drop, nat_lt, ◌==◌, not, Result, Ok}
use Rattle.std.specs.Prelude.{codes}
use Rattle.pdb_container.specs.Fault.{Fault, UnexpectedEof, UnimplementedFeature, ◌>>=◌, refuse}
use Rattle.pdb_container.specs.Container.{half_at, word_at}
use Rattle.pdb_symbols_modules.specs.declared.dbi.DBIHeader.{DBIHeader}

-- The header, by the places of its numbers. Between these lie versions, numbers of streams, the
-- number of a compiler's own index, and flags.
abbrev pub header_in : List ℕ → DBIHeader
header_in bytes = record {
  age = word_at bytes 8;
  symbol_records_stream = half_at bytes 20;
  module_list_size = word_at bytes 24;
  section_contribution_size = word_at bytes 28;
  section_map_size = word_at bytes 32;
  file_info_size = word_at bytes 36;
  type_server_map_size = word_at bytes 40;
  debug_header_size = word_at bytes 48;
  ec_substream_size = word_at bytes 52;
  machine = half_at bytes 58;
}

-- the header: 64 bytes, which are all there, with a signature
unfoldable pub header_of : List ℕ → Result DBIHeader Fault
header_of bytes = do
  whole ← refuse (nat_lt (length bytes) 64) UnexpectedEof
  known ← refuse (not (word_at bytes 0 == 0xffffffff))
      (UnimplementedFeature (codes "ancient DBI header"))
  Ok (header_in bytes)

-- The substreams follow the header in this order: module list, contributions, section map, file
-- info, type server map, edit and continue, optional header. The places of those that are read
-- follow.

-- the byte place of the contributions
abbrev pub contributions_place : DBIHeader → ℕ
contributions_place h = 64 + h.module_list_size

-- the byte place of the optional header
abbrev pub optional_header_place : DBIHeader → ℕ
optional_header_place h =
    contributions_place h + h.section_contribution_size + h.section_map_size + h.file_info_size
    + h.type_server_map_size + h.ec_substream_size

-- the end of the last substream
abbrev pub substreams_end : DBIHeader → ℕ
substreams_end h = optional_header_place h + h.debug_header_size

-- the DBI stream (3), as far as it is read
pub record Dbi : Type 0 where
  pub age : ℕ
  pub machine : ℕ
  -- the number of the stream of symbol records; 65535 for none
  pub symbol_records_stream : ℕ
  pub modules : List ℕ
  pub contributions : List ℕ
  pub optional_header : List ℕ

-- that many bytes from a place on
abbrev pub piece : List ℕ → ℕ → ℕ → List ℕ
piece bytes place size = take size (drop place bytes)

-- the DBI of a stream with this header
abbrev pub dbi_in : DBIHeader → List ℕ → Dbi
dbi_in h bytes = record {
  age = h.age;
  machine = h.machine;
  symbol_records_stream = h.symbol_records_stream;
  modules = piece bytes 64 h.module_list_size;
  contributions = piece bytes (contributions_place h) h.section_contribution_size;
  optional_header = piece bytes (optional_header_place h) h.debug_header_size;
}

-- the header, whose substreams have to be there
unfoldable pub dbi_of : List ℕ → Result Dbi Fault
dbi_of bytes = do
  h ← header_of bytes
  whole ← refuse (nat_lt (length bytes) (substreams_end h)) UnexpectedEof
  Ok (dbi_in h bytes)
