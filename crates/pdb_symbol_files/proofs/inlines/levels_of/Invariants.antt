use Rattle.std.proofs.Common.{◌≡◌, drop, max}
use Rattle.pdb_symbol_files.specs.PieceRecords.{depth_of}
use Rattle.pdb_symbol_files.proofs.inlines.levels_of.Given as goal

abbrev pub invariant-loop-piece : goal.invariant-loop-piece
invariant-loop-piece l = max l.depth (depth_of (drop l.piece-index l.pieces)) ≡ depth_of l.pieces
