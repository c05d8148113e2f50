-- A stream byte by byte, and under a limit.
use Rattle.std.specs.Prelude.{◌≡◌, ℕ, List, take, Option, Some, None, Ok, Err}
use Rattle.pdb_container.specs.Fault.{Fault}
use Rattle.pdb_container.specs.Container.{Layout, layout_of, directory_of, stream_pages_in, at_most}
use Rattle.pdb_container.specs.Container.{stream}
use Rattle.pdb_container.specs.Places.{IsPaged}

-- The bytes of stream n of a file, or its first ones. There are as many as the directory says or
-- the limit leaves. Byte i is the file's byte in the stream's page number i / P, at i % P, where P
-- is the size of a page.
pub record IsStream (file : List ℕ) (n : ℕ) (limit : Option ℕ) (bytes : List ℕ) : Type 0 where
  pub layout : Layout
  pub opens : layout_of file ≡ Ok layout
  pub numbers : List ℕ
  pub directory : directory_of layout file ≡ Ok numbers
  pub found : ℕ × List ℕ
  pub place : stream_pages_in layout.page_size layout.pages_used n numbers ≡ Ok found
  pub paged : IsPaged file layout.page_size found.1 (at_most limit found.0) bytes

-- Stream n has no place in the file, by a fault of the header, of the directory, or of the stream's
-- number or page numbers.
pub data HasNoPlace (file : List ℕ) (n : ℕ) (fault : Fault) : Type 0 where
  by_header : layout_of file ≡ Err fault → HasNoPlace file n fault
  by_directory : (h : Layout) → layout_of file ≡ Ok h → directory_of h file ≡ Err fault
      → HasNoPlace file n fault
  by_numbers : (h : Layout) (numbers : List ℕ) → layout_of file ≡ Ok h
      → directory_of h file ≡ Ok numbers
      → stream_pages_in h.page_size h.pages_used n numbers ≡ Err fault → HasNoPlace file n fault

-- The effect of a limit on stream n of a file.
pub record IsLimited (file : List ℕ) (n : ℕ) : Type 0 where
  -- a stream that is there is cut to its first bytes
  pub cut : (limit : ℕ) (bytes : List ℕ) → stream file n None ≡ Ok bytes
      → stream file n (Some limit) ≡ Ok (take limit bytes)
  -- page numbers are checked first: where the stream has no place, the fault is the same whatever
  -- the limit
  pub checked : (limit : Option ℕ) (fault : Fault) → HasNoPlace file n fault
      → stream file n limit ≡ Err fault
  -- each fault under a limit is the whole stream's
  pub kept : (limit : ℕ) (fault : Fault) → stream file n (Some limit) ≡ Err fault
      → stream file n None ≡ Err fault
