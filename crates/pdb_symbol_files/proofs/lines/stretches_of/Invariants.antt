use Rattle.std.proofs.Common.{◌≡◌, ◌++◌, drop}
use Rattle.std.specs.Prelude.{None}
use Rattle.pdb_symbol_files.specs.PieceRecords.{place_in, spans}
use Rattle.pdb_symbol_files.specs.Spans.{same_place}
use Rattle.pdb_symbol_files.proofs.lines.stretches_of.Given as goal

abbrev pub invariant-loop-piece : goal.invariant-loop-piece
invariant-loop-piece l =
    (l.stretches).items ++ spans same_place place_in l.running (drop l.piece-index l.pieces)
    ≡ spans same_place place_in None l.pieces
