-- The number of calls that neighbouring pieces have in common.
use Rattle.std.specs.Prelude.{ℕ, List, [], ◌∷◌, if◌then◌else◌, suc}
use Rattle.pdb_symbol_files.specs.Told.{Call, Piece, same_call}

-- the number of calls at the start of two lists that are the same in both
abbrev pub common_calls : List Call → List Call → ℕ
common_calls [] ys = 0
common_calls (a ∷ xs) [] = 0
common_calls (a ∷ xs) (b ∷ ys) = if same_call a b then suc (common_calls xs ys) else 0

-- the number of calls that each piece has in common with the one before it, after a piece with some
-- calls
abbrev pub common_with_last : List Call → List Piece → List ℕ
common_with_last last [] = []
common_with_last last (p ∷ pieces) =
    common_calls last (p.told).calls ∷ common_with_last (p.told).calls pieces
