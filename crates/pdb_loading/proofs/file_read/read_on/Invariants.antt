use Rattle.std.proofs.Common.{◌≤◌, ◌-◌, max, vec_len}
use Rattle.std.specs.Io.{StartsWith, appended_bytes}
use Rattle.std.specs.Io.KnownBytes.{Consumes}
use Rattle.pdb_loading.proofs.file_read.read_on.Given as goal

abbrev pub invariant-loop-buffer : goal.invariant-loop-buffer
invariant-loop-buffer g l = record {
  begun : StartsWith l.bytes.items l.fn.bytes.items;
  taken : Consumes (g.R.Read.remaining l.fn.file) (g.R.Read.remaining l.file) (appended_bytes l.fn.bytes.items l.bytes.items);
  bound : vec_len l.bytes ≤ max l.end (vec_len l.fn.bytes);
}

abbrev pub decreases-loop-buffer : goal.decreases-loop-buffer
decreases-loop-buffer g l = l.end - vec_len l.bytes
