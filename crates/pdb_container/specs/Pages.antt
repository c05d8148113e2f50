-- The model of a list of pages.
use Rattle.std.specs.Prelude.{◌≢◌, ℕ, ◌+◌, ◌*◌, ◌<◌, List, [], ◌∷◌}
use Rattle.std.specs.List.{range_with_len}
use Rattle.pdb_container.specs.declared.source.SourceSlice.{SourceSlice}
use Rattle.pdb_container.specs.Places.{page_places}

-- the size of a page, and the places of the list's bytes in the file
pub record Pages : Type 0 where
  pub page_size : ℕ
  pub places : List ℕ

-- the list of the first bytes of these pages
abbrev pub first_pages : ℕ → List ℕ → ℕ → Pages
first_pages page_size pages size =
    record { page_size = page_size; places = page_places page_size pages size }

-- the places of a page's bytes
abbrev pub page : ℕ → ℕ → List ℕ
page size number = range_with_len (number * size) size

-- each slice has a byte at least, and none ends where the next begins
abbrev pub AreApart : List SourceSlice → Type 0
AreApart [] = Unit {0}
AreApart (a ∷ []) = 0 < a.size
AreApart (a ∷ b ∷ slices) = (0 < a.size) × (a.offset + a.size ≢ b.offset) × AreApart (b ∷ slices)
