use Rattle.std.proofs.Common.{rules}
use Rattle.pdb_module_data.proofs.ProcedureSteps.{plain_passed}
use Rattle.pdb_module_data.proofs.procedures.read_procedures.Goals as goal

pub loop-procedures-preserved-then-not-may_be_procedure : goal.loop-procedures-preserved-then-not-may_be_procedure
loop-procedures-preserved-then-not-may_be_procedure c = record {
  so_far = plain_passed _ _ c.in-Some.symbol _ _ _ (search rules) (search rules) c.loop-procedures.invariant.so_far;
  starts = c.loop-procedures.invariant.starts;
}
