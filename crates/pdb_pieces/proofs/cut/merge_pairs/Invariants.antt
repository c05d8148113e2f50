use Rattle.std.proofs.Common.{◌≡◌, ℕ, ◌*◌, ◌≤◌, ◌-◌, take, drop, length, vec_len}
use Rattle.pdb_pieces.specs.Spans.{best, AreRuns}
use Rattle.pdb_pieces.proofs.cut.merge_pairs.Given as goal

abbrev pub invariant-loop-i : goal.invariant-loop-i
invariant-loop-i l = record {
  in_range : l.i ≤ length l.ends;
  half : vec_len l.merged_ends * 2 ≡ l.i;
  left : AreRuns l.spans l.from (drop l.i l.ends) (length l.spans);
  done : AreRuns l.merged.items 0 l.merged_ends.items (length l.merged.items);
  law : (p : ℕ) → best l.merged.items p ≡ best (take l.from l.spans) p;
}

abbrev pub decreases-loop-i : goal.decreases-loop-i
decreases-loop-i l = length l.ends - l.i
