use Rattle.std.proofs.Common.{◌≡◌, ◌-◌, ◌*◌, ◌^◌, ◌≤◌, length, drop}
use Rattle.pdb_image.specs.Rules.{done, steps_of}
use Rattle.pdb_image.proofs.frame.steps_at.Given as goal

-- the codes from this index on are gone over
abbrev pub invariant-loop-left : goal.invariant-loop-left
invariant-loop-left l = record {
  within : l.left ≤ length l.codes;
  steps : l.steps ≡ steps_of (done l.offset (drop l.left l.codes));
  depth : l.steps.depth ≤ 2 ^ 32 * (length l.codes - l.left);
}

abbrev pub decreases-loop-left : goal.decreases-loop-left
decreases-loop-left l = l.left
