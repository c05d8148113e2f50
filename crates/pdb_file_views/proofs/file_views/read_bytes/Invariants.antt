use Rattle.std.proofs.Common.{◌≡◌, ◌≤◌, length}
use Rattle.pdb_file_views.proofs.file_views.read_bytes.Given as goal

abbrev pub invariant-loop-slice : goal.invariant-loop-slice
invariant-loop-slice g l = record {
  long : length l.bytes.items ≡ l.total;
  within : l.at ≤ l.total;
}
