-- Tables of types (TPI, stream 2) and of ids (IPI, stream 4): the header, the list of items, and
-- the item with an index. The layout is that of LLVM's The PDB TPI and IPI Streams.
use Rattle.std.specs.Prelude.{ℕ, zero, suc, ◌+◌, ◌-◌, ◌^◌, List, [], ◌∷◌, length, drop, nat_lt}
use Rattle.std.specs.Prelude.{nat_le, if◌then◌else◌, Option, Some, None, Result, Ok, Err, codes}
use Rattle.std.specs.Prelude.{slice_get}
use Rattle.std.specs.Int.{w16, w32}
use Rattle.pdb_container.specs.Fault.{Fault, UnexpectedEof, InvalidTypeInformationHeader}
use Rattle.pdb_container.specs.Fault.{TypeTooShort, TypeNotFound, ◌>>=◌, refuse}
use Rattle.pdb_container.specs.Fields.{Reader, number_at, bytes_of}
use Rattle.pdb_container.specs.Listing.{Listing, before, ending}
use Rattle.pdb_container_types.specs.declared.header.Header.{Header}

-- ---- the header

-- the fields of the header, 56 bytes
unfoldable pub header_at : Reader Header
header_at bytes = do
  version ← number_at w32 bytes
  size ← number_at w32 version.1
  minimum ← number_at w32 size.1
  maximum ← number_at w32 minimum.1
  others ← bytes_of 40 maximum.1
  Ok (
    record { header_size = size.0; minimum_index = minimum.0; maximum_index = maximum.0 },
    others.1,
  )

-- a header that fits a stream of that many bytes
unfoldable pub fitting_header : ℕ → Header → Result Header Fault
fitting_header count h = do
  not_small ← refuse (nat_lt h.header_size 56)
      (InvalidTypeInformationHeader (codes "header size is impossibly small"))
  not_large ← refuse (nat_lt 1024 h.header_size)
      (InvalidTypeInformationHeader (codes "header size is unreasonably large"))
  there ← refuse (nat_lt count h.header_size) UnexpectedEof
  minimum ← refuse (nat_lt h.minimum_index 4096)
      (InvalidTypeInformationHeader (codes "minimum type index is < 4096"))
  ordered ← refuse (nat_lt h.maximum_index h.minimum_index)
      (InvalidTypeInformationHeader (codes "maximum type index is < minimum type index"))
  Ok h

-- the header of a stream; an empty stream is a table without indices
unfoldable pub item_header_of : List ℕ → Result Header Fault
item_header_of [] = Ok record { header_size = 0; minimum_index = 0; maximum_index = 0 }
item_header_of (b ∷ bytes) = do
  h ← header_at (b ∷ bytes)
  fitting_header (length (b ∷ bytes)) h.0

-- the first index of a table, the first past it, and the bytes of its items
pub record Table : Type 0 where
  pub minimum : ℕ
  pub maximum : ℕ
  pub bytes : List ℕ

-- the table with this header, and with these bytes as its items
abbrev pub table_in : Header → List ℕ → Table
table_in h items = record { minimum = h.minimum_index; maximum = h.maximum_index; bytes = items }

-- a stream as a table: the items follow the header, to the stream's end
unfoldable pub table_of : List ℕ → Result Table Fault
table_of bytes = do
  h ← item_header_of bytes
  Ok (table_in h (drop h.header_size bytes))

-- ---- the list of items

-- an item: a length in two bytes, at least 2, and that many bytes
unfoldable pub piece_at : Reader (List ℕ)
piece_at bytes = do
  size ← number_at w16 bytes
  long ← refuse (nat_lt size.0 2) TypeTooShort
  bytes_of size.0 size.1

-- an item that was read, before the others in the bytes after it; or the fault at which the list
-- ends
abbrev pub followed : (List ℕ → Listing (List ℕ)) → Result (List ℕ × List ℕ) Fault
    → Listing (List ℕ)
followed others (Ok read) = before read.0 (others read.1)
followed others (Err e) = ending (Some e)

-- the items that the bytes hold, one after another, where that many indices are left for them
unfoldable pub items_within : ℕ → List ℕ → Listing (List ℕ)
items_within room [] = ending None
items_within zero (b ∷ bytes) = ending (Some (InvalidTypeInformationHeader (codes "maximum")))
items_within (suc room) (b ∷ bytes) = followed (items_within room) (piece_at (b ∷ bytes))

-- the items that the bytes hold, the first with this index; 0xffffffff is no item's index
unfoldable pub items_from : ℕ → List ℕ → Listing (List ℕ)
items_from index bytes = items_within (2 ^ 32 - 1 - index) bytes

-- the items of a table
abbrev pub items_of : Table → Listing (List ℕ)
items_of t = items_from t.minimum t.bytes

-- ---- the item with an index

-- an item that may be there, or else the end
abbrev pub item_or_end : Option (List ℕ) → Option Fault → Result (Option (List ℕ)) Fault
item_or_end (Some item) fault = Ok (Some item)
item_or_end None None = Ok None
item_or_end None (Some e) = Err e

-- item number n, counted from 0; past a good end none, past a bad one the fault
unfoldable pub item_number : Listing (List ℕ) → ℕ → Result (Option (List ℕ)) Fault
item_number list n = item_or_end (slice_get list.items n) list.fault

-- the bytes of an item that has to be there
abbrev pub found_or_fault : ℕ → Result (Option (List ℕ)) Fault → Result (List ℕ) Fault
found_or_fault index (Ok (Some item)) = Ok item
found_or_fault index (Ok None) = Err (TypeNotFound index)
found_or_fault index (Err e) = Err e

-- The bytes of the item with that index, by the whole list. Indices below the table's have an empty
-- item.
unfoldable pub item_at : Table → ℕ → Result (List ℕ) Fault
item_at t index =
    if nat_le t.maximum index then Err (TypeNotFound index)
    else (if nat_lt index t.minimum then Ok []
    else found_or_fault index (item_number (items_of t) (index - t.minimum)))

-- the first index past the list
abbrev pub past_list : Table → ℕ
past_list t = t.minimum + length (items_of t).items
