use Rattle.std.proofs.Common.{sym, inr}
use Rattle.pdb_image.proofs.Slots.{first_cut}
use Rattle.pdb_image.proofs.codes.push_code.Goals as goal

pub returns-then-bytes-slots-clause-step : goal.returns-then-bytes-slots-clause-step
returns-then-bytes-slots-clause-step c = inr (first_cut c.args.of_parent c.args.frame c.in-Some.slots c.args.bytes.now c.in-Some.ensures.some.0 c.if-bytes-lt2.false c.if-bytes-slots.true (sym c.in-Some.ensures.slots))
