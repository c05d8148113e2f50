use Rattle.std.proofs.Common.{◌≡◌, ◌<◌, ℕ, get_or, length}
use Rattle.std.specs.Prelude.{None}
use Rattle.pdb_image.specs.Rules.{slot_rule}
use Rattle.pdb_image.proofs.rules.saved_rules.Given as goal

-- the registers below this one have their rules
abbrev pub invariant-loop-register : goal.invariant-loop-register
invariant-loop-register l = record {
  filled : (k : ℕ) → k < l.register
      → get_or l.rules k None ≡ slot_rule l.is_machine l.frame l.slots k;
  long : length l.rules ≡ 16;
}
