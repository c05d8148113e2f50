use Rattle.std.proofs.Common.{◌≡◌, ◌++◌, [], drop}
use Rattle.pdb_symbol_files.specs.CommonCalls.{common_with_last}
use Rattle.pdb_symbol_files.proofs.inlines.commons_of.Given as goal

abbrev pub invariant-loop-piece : goal.invariant-loop-piece
invariant-loop-piece l =
    (l.commons).items ++ common_with_last l.last (drop l.piece-index l.pieces)
    ≡ common_with_last [] l.pieces
