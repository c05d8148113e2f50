use Rattle.std.proofs.Common.{inl}
use Rattle.pdb_engine.proofs.engine.answer_line.Goals as goal

pub returns-clause-kind : goal.returns-clause-kind
returns-clause-kind g c = c.write_fault.ensures.kind

pub returns-clause-ends : goal.returns-clause-ends
returns-clause-ends g c = inl (_, c.write_fault.ensures.value, c.in-Err.ensures.fails)
