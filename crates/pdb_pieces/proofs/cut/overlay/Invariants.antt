use Rattle.std.proofs.Common.{◌≡◌, ◌++◌, ◌≤◌, ◌-◌, List}
use Rattle.pdb_pieces.specs.declared.span.Span.{Span}
use Rattle.pdb_pieces.specs.Spans.{ArePieces, IsAhead}
use Rattle.pdb_pieces.proofs.Overlay.{IsBetterBelow}
use Rattle.pdb_pieces.proofs.cut.overlay.Given as goal

-- below `from` the pieces that were added are what they must be, and both sides stand at `from`
abbrev pub invariant-loop-from : goal.invariant-loop-from
invariant-loop-from l = record {
  bound : l.from ≤ 18446744073709551615;
  left : IsAhead l.left l.i l.from 18446744073709551615;
  right : IsAhead l.right l.j l.from 18446744073709551615;
  added : List Span;
  is : l.pieces.items ≡ l.fn.pieces.items ++ added;
  pieces : ArePieces 0 l.from added;
  law : IsBetterBelow added l.left l.right l.from;
}

abbrev pub decreases-loop-from : goal.decreases-loop-from
decreases-loop-from l = 18446744073709551615 - l.from
