-- What a table of places says of a path.
use Rattle.std.proofs.Common.{◌≡◌, ℕ, ◌<◌, List, length, get_or, false, arith}
use Rattle.std.proofs.lemmas.List.Folds.{list_any_none}
use Rattle.std.proofs.lemmas.List.Elements.{All-from_get_or}
use Rattle.std.proofs.lemmas.Grind.{common_steps}
use Rattle.std.specs.Prelude.{◌==◌}
use Rattle.pdb_type_printing.specs.Paths.{Path, is_on}
use Rattle.pdb_type_printing.specs.PathPlaces.{ArePlaced, is_placed}

-- what has no place is none of the path's indices
is_other : (table : List ℕ) (path : Path) (i k : ℕ) → ArePlaced table path (length path)
    → is_placed table path (length path) i ≡ false → k < length path
    → (get_or path k 0 == i) ≡ false
is_other table path i k placed h lt =
    let before = placed.before k lt in
    let alike = placed.alike k lt in grind (arith, common_steps, before, alike)

-- what has no place is not on the path
pub not_placed : (table : List ℕ) (path : Path) (i : ℕ) → ArePlaced table path (length path)
    → is_placed table path (length path) i ≡ false → is_on path i ≡ false
not_placed table path i placed h = list_any_none (λ p. p == i) path
    (All-from_get_or (λ p. (p == i) ≡ false) path 0
    (λ k lt. is_other table path i k placed h lt))
