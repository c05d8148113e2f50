use Rattle.pdb_symbols.proofs.NamedSteps.{fields_more}
use Rattle.pdb_symbols.proofs.undecorated.after_fields.Goals as goal

pub loop-preserved : goal.loop-preserved
loop-preserved c = fields_more c.args.count c.loop.counter c.loop.rest.now
    c.after_blank-rest.result.now _ c.loop-test.true c.after_blank-rest.ensures c.loop.invariant
