-- The views that were read of a file, and the lists of bytes that agree with them.
use Rattle.std.specs.Prelude.{◌≡◌, ℕ, Bool, true, false, ◌&&◌, if◌then◌else◌, nat_eq}
use Rattle.std.specs.Prelude.{bytes_eq, ◌==◌, List, [], ◌∷◌, length, map, slice_index, Option, None}
use Rattle.std.specs.Prelude.{Some, Result, Ok, Err}
use Rattle.std.specs.List.{All, list_all, range_with_len}
use Rattle.pdb_container.specs.Fault.{Fault}
use Rattle.pdb_container.specs.Places.{places_of, bytes_at}
use Rattle.pdb_file_views.specs.Blocks.{AreMarked}
use Rattle.pdb_file_views.specs.declared.file_views.FileView.{FileView}

-- the bytes that were read of a file of this size: views with their bytes, and maybe all of the
-- file; and some list of bytes that agrees with the views
pub record Views : Type 0 where
  pub size : ℕ
  pub views : List FileView
  pub whole : Option (List ℕ)
  pub witness : List ℕ

-- whether a reading gave these bytes
abbrev pub gave : Result (List ℕ) Fault → List ℕ → Bool
gave (Ok read) bytes = bytes_eq read bytes
gave (Err fault) bytes = false

-- whether a list of bytes has a view's bytes at the view's places
abbrev pub has_view : List ℕ → FileView → Bool
has_view contents view = gave (bytes_at contents (places_of view.slices.items)) view.bytes

-- whether a list of bytes is all that was read, where all was
abbrev pub is_whole : Option (List ℕ) → List ℕ → Bool
is_whole None contents = true
is_whole (Some bytes) contents = bytes_eq contents bytes

-- whether a list of bytes agrees with everything that was read of a file
abbrev pub agrees : Views → List ℕ → Bool
agrees read contents =
    (nat_eq (length contents) read.size && list_all (has_view contents) read.views)
    && is_whole read.whole contents

-- these bytes where they agree with what was read, and otherwise some that agree with the views
abbrev pub agreeing : Views → List ℕ → List ℕ
agreeing read contents = if agrees read contents then contents else read.witness

-- all of a file where all of it was read, and otherwise other bytes
abbrev pub whole_or : Option (List ℕ) → List ℕ → List ℕ
whole_or None contents = contents
whole_or (Some bytes) contents = bytes

-- the bytes that a source of a file has
abbrev pub source_bytes : Views → List ℕ → List ℕ
source_bytes read contents = whole_or read.whole (agreeing read contents)

-- the byte that stands with a place, or the one that was there before
abbrev pub byte_with : List ℕ → List ℕ → ℕ → ℕ → ℕ
byte_with [] bytes before at = before
byte_with (place ∷ places) [] before at = before
byte_with (place ∷ places) (byte ∷ bytes) before at =
    if at == place then byte else byte_with places bytes before at

-- bytes with the bytes at some places replaced
abbrev pub with_bytes : List ℕ → List ℕ → List ℕ → List ℕ
with_bytes file places bytes =
    map (λ at. byte_with places bytes (slice_index file at) at) (range_with_len 0 (length file))

-- a list of bytes has a view's bytes, and the view lies in marked blocks
pub record IsRead (marks : List Bool) (file : List ℕ) (view : FileView) : Type 0 where
  pub bytes_are : bytes_at file (places_of view.slices.items) ≡ Ok view.bytes
  pub marked : AreMarked marks (places_of view.slices.items)

-- A list of bytes is as long as the file, and has all views, which lie in marked blocks.
pub record IsWitness (size : ℕ) (views : List FileView) (marks : List Bool) (file : List ℕ) : Type 0
  where
    pub size_is : length file ≡ size
    pub each : All (IsRead marks file) views

-- a list of bytes has these views
abbrev pub HasViews : List ℕ → List FileView → Type 0
HasViews contents views =
    All (λ view. bytes_at contents (places_of view.slices.items) ≡ Ok view.bytes) views

-- Bytes that agree with everything that was read agreed before.
abbrev pub Grows : Views → Views → Type 0
Grows old new = (contents : List ℕ) → agrees new contents ≡ true → agrees old contents ≡ true
