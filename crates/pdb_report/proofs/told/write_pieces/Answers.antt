use Rattle.std.proofs.Common.{refl}
use Rattle.std.proofs.KnownBytes.{Appends-nil}
use Rattle.pdb_container.specs.PrintedFault.{piece_text}
use Rattle.pdb_report.proofs.Pieces.{pieces_more, pieces_part, pieces_all}
use Rattle.pdb_report.proofs.told.write_pieces.Goals as goal

pub loop-piece-init : goal.loop-piece-init
loop-piece-init g c = (refl, Appends-nil _)

pub loop-piece-preserved : goal.loop-piece-preserved
loop-piece-preserved g c =
    pieces_more piece_text g.W.ErrorOutput.contents g.W.ErrorOutput.failures g.W.ErrorOutput.has_failed _ _ _ c.args.pieces.now c.loop-piece.piece-index _ c.loop-piece-test.true c.loop-piece.invariant c.in-Ok.ensures

pub returns-in-Err : goal.returns-in-Err
returns-in-Err g c =
    pieces_part piece_text g.W.ErrorOutput.contents g.W.ErrorOutput.failures g.W.ErrorOutput.has_failed _ _ _ c.args.pieces.now c.loop-piece.piece-index _ c.loop-piece-test.true c.loop-piece.invariant c.in-Err.kind c.in-Err.ensures

pub returns : goal.returns
returns g c = pieces_all piece_text g.W.ErrorOutput.contents g.W.ErrorOutput.failures _ _ c.args.pieces.now c.loop-piece.piece-index c.loop-piece-test.false c.loop-piece.invariant
