use Rattle.pdb_addr2line.proofs.OpeningSteps.{context_answers}
use Rattle.pdb_addr2line.proofs.symbolizer.Symbolizer.context_with_flags.Goals as goal

pub returns-in-Ok-clause-answers : goal.returns-in-Ok-clause-answers
returns-in-Ok-clause-answers c = rw (← c.self.view_is) (context_answers c.args.flags.bits c.self.inside.order c.self.inside.file c.self.inside.held c.in-Ok.context c.self.invariant c.in-Ok.ensures)
