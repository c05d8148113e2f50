-- The streams of an MSF container, as a function of the file's bytes.
-- The layout is that of MSF in microsoft-pdb's msf.h, which LLVM's The MSF File Format describes.
use Rattle.std.specs.Prelude.{ℕ, ◌+◌, ◌-◌, ◌*◌, ◌/◌, ◌^◌, ◌&&◌, Bool, zero, suc, List, [], ◌∷◌}
use Rattle.std.specs.Prelude.{◌++◌, codes, length, take, drop, map, min, slice_index, nat_lt}
use Rattle.std.specs.Prelude.{nat_le, nat_eq, ◌==◌, if◌then◌else◌, Option, Some, None, Result, Ok}
use Rattle.std.specs.Prelude.{Err}
use Rattle.std.specs.List.{range_with_len, sum_by, starts_with}
use Rattle.std.specs.Int.{w16, w32, from_le_bytes, is_power_of_two, div_ceil}
use Rattle.pdb_container.specs.Fault.{Fault}
use Rattle.pdb_container.specs.Fault.{UnrecognizedFileFormat, InvalidPageSize}
use Rattle.pdb_container.specs.Fault.{PageReferenceOutOfRange, StreamNotFound, UnexpectedEof}
use Rattle.pdb_container.specs.Fault.{◌>>=◌, guard, refuse}
use Rattle.pdb_container.specs.Places.{bytes_at, page_places}

-- the header's numbers
pub record Layout : Type 0 where
  pub page_size : ℕ
  pub pages_used : ℕ
  pub directory_size : ℕ
  pub list_pages : List ℕ

-- the number in the four bytes from a place on
abbrev pub word_at : List ℕ → ℕ → ℕ
word_at bytes at = from_le_bytes w32 (take 4 (drop at bytes))

-- the number in the two bytes from a place on
abbrev pub half_at : List ℕ → ℕ → ℕ
half_at bytes at = from_le_bytes w16 (take 2 (drop at bytes))

-- the first numbers that the bytes spell, by four bytes each
unfoldable pub first_words : List ℕ → ℕ → List ℕ
first_words bytes n = map (λ i. word_at bytes (4 * i)) (range_with_len 0 n)

-- the numbers that the bytes spell, by four bytes each; fewer than four bytes at the end are none
abbrev pub words : List ℕ → List ℕ
words bytes = first_words bytes (length bytes / 4)

-- the first numbers as pages: the fault is the first that is missing or out of range
abbrev pub pages_in : ℕ → ℕ → List ℕ → Result (List ℕ) Fault
pages_in used zero numbers = Ok []
pages_in used (suc n) [] = Err UnexpectedEof
pages_in used (suc n) (page ∷ numbers) = do
  in_range ← guard (nat_le 1 page && nat_le page used) (PageReferenceOutOfRange page)
  others ← pages_in used n numbers
  Ok (page ∷ others)

-- whether a number is a page size: a power of two from 0x100 to 0x800000 bytes
abbrev pub IsPageSize : ℕ → Bool
IsPageSize size = is_power_of_two size && (nat_le 0x100 size && nat_le size 0x800000)

-- the number of pages that list those of the directory, by four bytes each
abbrev pub list_count : ℕ → ℕ → ℕ
list_count page_size directory_size = div_ceil (4 * div_ceil directory_size page_size) page_size

-- the bytes after the header's numbers
unfoldable pub behind_header : List ℕ → List ℕ
behind_header front = drop 52 front

-- the magic at a container's start: a text of 24 bytes, the end of a line, and 0x1A, "DS" and three
-- NULs
abbrev pub magic : List ℕ
magic = codes "Microsoft C/C++ MSF 7.00" ++ 0x0d ∷ 0x0a ∷ 0x1a ∷ codes "DS" ++ 0 ∷ 0 ∷ 0 ∷ []

-- the header, in the first 4096 bytes
unfoldable pub header_in : List ℕ → Result Layout Fault
header_in front = do
  known ← guard (starts_with nat_eq front magic) UnrecognizedFileFormat
  sized ← guard (IsPageSize (word_at front 32)) (InvalidPageSize (word_at front 32))
  list ← pages_in (word_at front 40) (list_count (word_at front 32) (word_at front 44))
      (words (behind_header front))
  Ok (record {
    page_size = word_at front 32;
    pages_used = word_at front 40;
    directory_size = word_at front 44;
    list_pages = list;
  })

-- the byte at which the pages that a header counts end, from page 0 to the last that may be used
abbrev pub pages_end : List ℕ → ℕ
pages_end header = (word_at header 40 + 1) * word_at header 32

-- the first bytes, which have to be there
unfoldable pub front_in : List ℕ → Result (List ℕ) Fault
front_in file =
    if nat_lt (length file) 4096 then Err UnrecognizedFileFormat else Ok (take 4096 file)

-- the MSF header of a file, or its first fault
unfoldable pub layout_of : List ℕ → Result Layout Fault
layout_of file = do
  front ← front_in file
  header_in front

-- the first bytes of these pages
abbrev pub bytes_in : ℕ → List ℕ → ℕ → List ℕ → Result (List ℕ) Fault
bytes_in page_size pages size file = bytes_at file (page_places page_size pages size)

-- the numbers that the first bytes of these pages spell
abbrev pub words_in : ℕ → List ℕ → ℕ → List ℕ → Result (List ℕ) Fault
words_in page_size pages size file =
    bytes_in page_size pages size file >>= λ bytes. Ok (words bytes)

-- the pages of the directory
abbrev pub directory_pages_in : Layout → List ℕ → Result (List ℕ) Fault
directory_pages_in h file =
    bytes_at file (page_places h.page_size h.list_pages (4 * div_ceil h.directory_size h.page_size))
    >>= λ list. pages_in h.pages_used (div_ceil h.directory_size h.page_size) (words list)

-- the directory, as numbers
unfoldable pub directory_of : Layout → List ℕ → Result (List ℕ) Fault
directory_of h file = do
  list ← bytes_at file
      (page_places h.page_size h.list_pages (4 * div_ceil h.directory_size h.page_size))
  pages ← pages_in h.pages_used (div_ceil h.directory_size h.page_size) (words list)
  bytes ← bytes_at file (page_places h.page_size pages h.directory_size)
  Ok (words bytes)

-- the size of a stream that is not there
abbrev pub absent : ℕ
absent = 2 ^ 32 - 1

-- the number of pages of a stream: an absent one has none
abbrev pub page_count : ℕ → ℕ → ℕ
page_count page_size size = if size == absent then 0 else div_ceil size page_size

-- The size and the pages of stream n, in the directory's numbers: a count, so many sizes, and then
-- the page numbers of each stream in order.
unfoldable pub stream_pages_in : ℕ → ℕ → ℕ → List ℕ → Result (ℕ × List ℕ) Fault
stream_pages_in page_size used n [] = Err UnexpectedEof
stream_pages_in page_size used n (count ∷ numbers) = do
  known ← refuse (nat_le count n) (StreamNotFound n)
  whole ← refuse (nat_lt (length numbers) count) UnexpectedEof
  present ← refuse (slice_index numbers n == absent) (StreamNotFound n)
  pages ← pages_in used (page_count page_size (slice_index numbers n))
      (drop (count + sum_by (page_count page_size) (take n numbers)) numbers)
  Ok (slice_index numbers n, pages)

-- a size in bytes, cut to a limit if there is one
abbrev pub at_most : Option ℕ → ℕ → ℕ
at_most None size = size
at_most (Some limit) size = min size limit

-- the first bytes of stream n in a file with this header
unfoldable pub stream_in : Layout → List ℕ → ℕ → Option ℕ → Result (List ℕ) Fault
stream_in h file n limit = do
  directory ← directory_of h file
  found ← stream_pages_in h.page_size h.pages_used n directory
  bytes_at file (page_places h.page_size found.1 (at_most limit found.0))

-- the first bytes of stream n of a file
unfoldable pub stream : List ℕ → ℕ → Option ℕ → Result (List ℕ) Fault
stream file n limit = do
  h ← layout_of file
  stream_in h file n limit
