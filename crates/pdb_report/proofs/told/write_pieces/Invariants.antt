use Rattle.std.proofs.Common.{take}
use Rattle.std.specs.List.{flat_map}
use Rattle.pdb_engine.specs.Puts.{PutsAll}
use Rattle.pdb_container.specs.PrintedFault.{piece_text}
use Rattle.pdb_report.proofs.told.write_pieces.Given as goal

-- the pieces so far are out
abbrev pub invariant-loop-piece : goal.invariant-loop-piece
invariant-loop-piece g l = PutsAll g.W.ErrorOutput.contents g.W.ErrorOutput.failures l.fn.output l.output (flat_map piece_text (take l.piece-index l.pieces))
