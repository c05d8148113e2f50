-- Pages of which each is read once, and the numbers that are read through them.
use Rattle.std.specs.Prelude.{◌≡◌, ℕ, ◌+◌, ◌*◌, ◌/◌, ◌%◌, ◌<◌, ◌≤◌, ◌^◌, List, length, map}
use Rattle.std.specs.Prelude.{slice_index, Some}
use Rattle.std.specs.List.{range_with_len}
use Rattle.std.specs.Ordering.{nat_cmp}
use Rattle.std.specs.BTreeMap.{BTreeMap, get}
use Rattle.pdb_container.specs.Container.{word_at}

-- ---- pages, each once

-- the place of byte i of a list of pages, where page k of the list stands at places[k], in pages
abbrev pub byte_place : ℕ → List ℕ → ℕ → ℕ
byte_place page_size places i = slice_index places (i / page_size) * page_size + i % page_size

-- Each page of a list stands at its place among the pages, and each of the pages is one of the
-- list's.
pub record AreDistinct (list pages places : List ℕ) : Type 0 where
  pub many : length places ≡ length list
  pub few : length pages ≤ length list
  pub place : (i : ℕ) → i < length list → (slice_index places i < length pages)
      × (slice_index pages (slice_index places i) ≡ slice_index list i)
  pub page : (k : ℕ) → k < length pages → (i : ℕ) × (i < length list) × (slice_index places i ≡ k)

-- the known value of a page is its place among the pages
pub record AreKnown (pages : List ℕ) (known : BTreeMap ℕ ℕ) : Type 0 where
  pub each : (page place : ℕ) → get nat_cmp known page ≡ Some place
      → (place < length pages) × (slice_index pages place ≡ page)

-- The first `read` bytes of the pages are those of the first `size` bytes of a list of pages: each
-- byte of the list is there at its place, and no other byte is.
pub record StandIn (page_size : ℕ) (list : List ℕ) (size : ℕ) (pages places : List ℕ) (read : ℕ)
    : Type 0 where
  pub many : length places ≡ length list
  pub few : length pages ≤ length list
  pub enough : read ≤ length pages * page_size
  pub place : (i : ℕ) → i < size → (byte_place page_size places i < read)
      × (slice_index pages (slice_index places (i / page_size)) ≡ slice_index list (i / page_size))
  pub byte : (k : ℕ) → k < read → (i : ℕ) × (i < size) × (byte_place page_size places i ≡ k)

-- ---- numbers that are read through pages

-- the first numbers of a list of pages, by four bytes each, where page k of the list stands at
-- places[k] in the bytes
unfoldable pub numbers_through : ℕ → List ℕ → List ℕ → ℕ → List ℕ
numbers_through page_size places bytes count =
    map (λ i. word_at bytes (byte_place page_size places (4 * i))) (range_with_len 0 count)

-- The four bytes of each of the first numbers are there, in a page that has a place.
pub record AreThere (page_size : ℕ) (places bytes : List ℕ) (count : ℕ) : Type 0 where
  pub sized : 0 < page_size
  pub few : count < 2 ^ 30
  pub page : (i : ℕ) → i < count → 4 * i / page_size < length places
  pub word : (i : ℕ) → i < count → byte_place page_size places (4 * i) + 4 ≤ length bytes
