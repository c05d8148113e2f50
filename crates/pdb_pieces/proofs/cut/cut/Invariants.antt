use Rattle.std.proofs.Common.{◌≡◌, ℕ, length, vec_len}
use Rattle.pdb_pieces.specs.Spans.{best, AreRuns}
use Rattle.pdb_pieces.proofs.cut.cut.Given as goal

abbrev pub invariant-loop-runs : goal.invariant-loop-runs
invariant-loop-runs l = record {
  runs : AreRuns l.runs.items 0 l.ends.items (length l.runs.items);
  law : (p : ℕ) → best l.runs.items p ≡ best l.spans p;
}

abbrev pub decreases-loop-runs : goal.decreases-loop-runs
decreases-loop-runs l = vec_len l.ends
