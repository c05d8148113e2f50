use Rattle.std.proofs.Common.{◌-◌, ◌^◌, ◌<◌, ◌≤◌, length, map}
use Rattle.pdb_pieces.proofs.Halving.{AreBefore, AreAfter, IsCheap, IsThorough}
use Rattle.pdb_pieces.proofs.ascending.count_begun.Given as goal

abbrev pub invariant-loop-low : goal.invariant-loop-low
invariant-loop-low g l = record {
  small : length l.items < 2 ^ 64;
  in_order : l.low ≤ l.high;
  in_range : l.high ≤ length l.items;
  before : AreBefore (map g.T.Begins.beginning l.items) l.low l.place;
  after : AreAfter (map g.T.Begins.beginning l.items) l.high l.place;
  cheap : IsCheap (length l.items) l.probes (l.high - l.low);
  thorough : IsThorough (length l.items) l.probes (l.high - l.low);
}

abbrev pub decreases-loop-low : goal.decreases-loop-low
decreases-loop-low g l = l.high - l.low
