use Rattle.std.proofs.Common.{ℕ, ◌≤◌, ◌-◌, length}
use Rattle.std.specs.List.{slice_range}
use Rattle.pdb_pieces.specs.Spans.{ArePieces, AreRuns}
use Rattle.pdb_pieces.proofs.cut.run_ends.Given as goal

-- after the runs that have ended comes the one that goes on
abbrev pub invariant-loop-i : goal.invariant-loop-i
invariant-loop-i l = record {
  in_range : l.i ≤ length l.spans;
  from : ℕ;
  before : from ≤ l.i;
  done : AreRuns l.spans 0 l.ends.items from;
  run : ArePieces 0 l.end (slice_range l.spans from l.i);
  bound : l.end ≤ 18446744073709551615;
}

abbrev pub decreases-loop-i : goal.decreases-loop-i
decreases-loop-i l = length l.spans - l.i
