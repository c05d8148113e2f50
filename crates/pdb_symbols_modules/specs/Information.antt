-- The information stream (1): version, signature, age and GUID of a database, and the names that it
-- gives to streams. The layout is that of LLVM's The PDB Info Stream, as the pdb crate reads it.
use Rattle.std.specs.Prelude.{ℕ, ◌*◌, Bool, List, nat_lt, nat_eq, ◌==◌, Option, None, Some}
use Rattle.std.specs.Prelude.{if◌then◌else◌, Result, Ok, Err}
use Rattle.std.specs.List.{find}
use Rattle.std.specs.Cmp.Lexicographic.{pointwise}
use Rattle.std.specs.Int.{w32}
use Rattle.pdb_container.specs.Fault.{Fault, StreamNameNotFound, ◌>>=◌}
use Rattle.pdb_container.specs.Fields.{Reader, number_at, bytes_of}
use Rattle.pdb_container.specs.StringTable.{name_in}
use Rattle.pdb_container.specs.RecordFields.{many_at}

-- the information of a database, and the whole stream
pub record Information : Type 0 where
  pub version : ℕ
  -- the time at which the database was made
  pub signature : ℕ
  -- the age: how often the database was written since
  pub age : ℕ
  -- 16 bytes
  pub guid : List ℕ
  pub bytes : List ℕ

-- the information in stream 1: version, signature, age and GUID
unfoldable pub information_of : List ℕ → Result Information Fault
information_of bytes = do
  version ← number_at w32 bytes
  signature ← number_at w32 version.1
  age ← number_at w32 signature.1
  guid ← bytes_of 16 age.1
  Ok record {
    version = version.0;
    signature = signature.0;
    age = age.0;
    guid = guid.0;
    bytes = bytes;
  }

-- ---- names of streams

-- a name, and the number of the stream that bears it; 65535 for none
pub record StreamName : Type 0 where
  pub name : List ℕ
  pub stream_id : ℕ

-- a number in 32 bits as that of a stream: past 65534 it names none
abbrev pub stream_number : ℕ → ℕ
stream_number n = if nat_lt n 65535 then n else 65535

-- an entry: the offset of a name among those of a block, and the stream's number
unfoldable pub stream_name_at : List ℕ → Reader StreamName
stream_name_at names bytes = do
  offset ← number_at w32 bytes
  number ← number_at w32 offset.1
  name ← name_in names offset.0
  Ok (record { name = name; stream_id = stream_number number.0 }, number.1)

-- that many entries
abbrev pub stream_names_at : List ℕ → ℕ → Reader (List StreamName)
stream_names_at names count = many_at (stream_name_at names) count

-- four-byte words of bits, after their count
abbrev pub bits_at : Reader (List ℕ)
bits_at bytes = number_at w32 bytes >>= λ count. bytes_of (4 * count.0) count.1

-- The entries that the stream holds after its first 28 bytes: a block of names, after its size; the
-- number of entries, and of those for which there is room; the used places, and those used before;
-- the entries.
unfoldable pub stream_names_of : List ℕ → Result (List StreamName) Fault
stream_names_of bytes = do
  header ← bytes_of 28 bytes
  size ← number_at w32 header.1
  names ← bytes_of size.0 size.1
  count ← number_at w32 names.1
  room ← number_at w32 count.1
  used ← bits_at room.1
  deleted ← bits_at used.1
  found ← stream_names_at names.0 count.0 deleted.1
  Ok found.0

-- the number of the first entry of a name
abbrev pub number_in : Option StreamName → Result ℕ Fault
number_in None = Err StreamNameNotFound
number_in (Some s) = if s.stream_id == 65535 then Err StreamNameNotFound else Ok s.stream_id

-- an entry has a name, byte by byte
abbrev pub is_named : List ℕ → StreamName → Bool
is_named name s = pointwise nat_eq s.name name

-- the number of the stream that bears a name
unfoldable pub number_of : List ℕ → List StreamName → Result ℕ Fault
number_of name entries = number_in (find (is_named name) entries)
