use Rattle.std.proofs.Common.{◌≡◌, ◌-◌, ◌*◌, ◌^◌, ◌≤◌, length, drop}
use Rattle.pdb_image.specs.Rules.{done, last_offset, steps_of}
use Rattle.pdb_image.proofs.frame.Tail.of.Given as goal

-- the codes from this index on are in the tail
abbrev pub invariant-loop-begin : goal.invariant-loop-begin
invariant-loop-begin l = record {
  within : l.begin ≤ length l.codes;
  zeros : last_offset (drop l.begin l.codes) ≡ 0;
  steps : l.steps ≡ steps_of (done 0 (drop l.begin l.codes));
  depth : l.steps.depth ≤ 2 ^ 32 * (length l.codes - l.begin);
}

abbrev pub decreases-loop-begin : goal.decreases-loop-begin
decreases-loop-begin l = l.begin
