use Rattle.pdb_engine.proofs.engine.write_pending.Goals as goal

pub returns-in-Err-clause-kind : goal.returns-in-Err-clause-kind
returns-in-Err-clause-kind g c = c.write_fault.ensures.kind

pub returns-in-Err-clause-ends : goal.returns-in-Err-clause-ends
returns-in-Err-clause-ends g c = (_, c.write_fault.ensures.value, c.in-Err.ensures.fails)
