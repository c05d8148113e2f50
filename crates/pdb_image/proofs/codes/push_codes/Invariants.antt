use Rattle.std.proofs.Common.{◌≡◌, ◌+◌, ◌-◌, ◌*◌, ◌≤◌, length, drop, vec_len}
use Rattle.pdb_image.specs.Codes.{behind, codes_in}
use Rattle.pdb_image.proofs.codes.push_codes.Given as goal

-- what was read, and what is still read, are the codes
abbrev pub invariant-loop-place : goal.invariant-loop-place
invariant-loop-place l = record {
  within : l.place ≤ length l.bytes;
  so_far : behind l.codes.items (codes_in l.of_parent l.frame 0 (drop l.place l.bytes))
      ≡ behind l.initial.codes.items (codes_in l.of_parent l.frame 0 l.bytes);
  count : 2 * vec_len l.codes ≤ 2 * vec_len l.initial.codes + l.place;
}

abbrev pub decreases-loop-place : goal.decreases-loop-place
decreases-loop-place l = length l.bytes - l.place
