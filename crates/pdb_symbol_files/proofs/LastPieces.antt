-- The last of some pieces.
use Rattle.std.proofs.Common.{◌≡◌, ◌-◌, List, [], ◌∷◌, Bool, true, length, refl, ◌∙◌, ap, arith}
use Rattle.std.specs.Prelude.{Option, None, Some, slice_get}
use Rattle.pdb_symbol_files.specs.PieceRecords.{is_more, last_of}
use Rattle.pdb_symbol_files.specs.Told.{continues, Piece}

pub last_got : (q : Piece) (pieces : List Piece)
    → slice_get (q ∷ pieces) (length pieces) ≡ Some (last_of q pieces)
last_got q [] = refl
last_got q (r ∷ pieces) = last_got r pieces

pub more_of : Option Piece → Piece → Bool
more_of None p = true
more_of (Some q) p = continues q p

pub more_by_last : (pieces : List Piece) (p : Piece) (last : Option Piece)
    → last ≡ slice_get pieces (length pieces - 1) → more_of last p ≡ is_more pieces p
unfolding more_of
more_by_last [] p last e = ap (λ (x : Option Piece). more_of x p) e
more_by_last (q ∷ pieces) p last e =
    let n : length (q ∷ pieces) - 1 ≡ length pieces = omega arith in
    ap (λ (x : Option Piece). more_of x p)
    (e ∙ ap (slice_get (q ∷ pieces)) n ∙ last_got q pieces)

pub none_more : (pieces : List Piece) (p : Piece)
    → None ≡ slice_get pieces (length pieces - 1) → true ≡ is_more pieces p
unfolding more_of
none_more pieces p e = more_by_last pieces p None e

pub some_more : (pieces : List Piece) (p q : Piece)
    → Some q ≡ slice_get pieces (length pieces - 1) → continues q p ≡ is_more pieces p
unfolding more_of
some_more pieces p q e = more_by_last pieces p (Some q) e
