use Rattle.std.proofs.Common.{None, ap, ◌∙◌, refl}
use Rattle.std.specs.Prelude.{slice_set}
use Rattle.pdb_known_modules.proofs.Fills.{fill_more, fill_all}
use Rattle.pdb_known_modules.proofs.slots.empty_all.Goals as goal

pub loop-slot-init : goal.loop-slot-init
loop-slot-init g c = refl

pub loop-slot-preserved : goal.loop-slot-preserved
loop-slot-preserved g c = ap (λ xs. slice_set xs c.loop-slot.slot None) c.loop-slot.invariant ∙ fill_more c.loop-slot.slot None c.args.slots.now c.loop-slot-test.true

pub returns : goal.returns
returns g c = c.loop-slot.invariant ∙ fill_all c.loop-slot.slot None c.args.slots.now c.loop-slot.auto.slot-end c.loop-slot-test.false
