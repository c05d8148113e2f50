use Rattle.std.proofs.Common.{arith}
use Rattle.std.specs.Prelude.{None}
use Rattle.std.proofs.lemmas.List.FromFn.{fill_by_all}
use Rattle.pdb_image.specs.Rules.{slot_rule}
use Rattle.pdb_image.proofs.rules.saved_rules.Goals as goal

pub returns : goal.returns
returns c = fill_by_all (slot_rule c.args.is_machine c.args.frame c.args.slots.now) c.loop-register.rules 16 None c.loop-register.invariant.long (λ k h. c.loop-register.invariant.filled k (omega arith))
