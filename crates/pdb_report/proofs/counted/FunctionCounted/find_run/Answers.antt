use Rattle.std.proofs.Common.{ap}
use Rattle.pdb_report.specs.Answer.{keyed_in}
use Rattle.pdb_report.specs.Answer.{answered_in}
use Rattle.pdb_report.proofs.counted.FunctionCounted.find_run.Goals as goal

pub returns-clause-same : goal.returns-clause-same
returns-clause-same c = ap (keyed_in answered_in) c.find_key_run.ensures.same
