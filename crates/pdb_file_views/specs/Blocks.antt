-- Blocks of 512 bytes of a file, of which some are marked as read.
use Rattle.std.specs.Prelude.{◌≡◌, ◌≢◌, ℕ, ◌/◌, Bool, true, false, List, [], ◌∷◌, get_or}
use Rattle.std.specs.List.{All}

-- each of these places lies in a marked block
abbrev pub AreMarked : List Bool → List ℕ → Type 0
AreMarked marks places = All (λ at. get_or marks (at / 512) false ≡ true) places

-- each of these places lies in a block of the file that isn't marked
abbrev pub AreFree : List Bool → List ℕ → Type 0
AreFree marks places = All (λ at. get_or marks (at / 512) true ≡ false) places

-- no place stands there twice
abbrev pub AreDistinct : List ℕ → Type 0
AreDistinct [] = Unit {0}
AreDistinct (at ∷ places) = All (λ other. at ≢ other) places × AreDistinct places

-- Blocks that were marked still are.
abbrev pub StayMarked : List Bool → List Bool → Type 0
StayMarked old new = (block : ℕ) → get_or old block false ≡ true → get_or new block false ≡ true

-- Blocks that aren't marked weren't before.
abbrev pub WereFree : List Bool → List Bool → Type 0
WereFree old new = (block : ℕ) → get_or new block true ≡ false → get_or old block true ≡ false
