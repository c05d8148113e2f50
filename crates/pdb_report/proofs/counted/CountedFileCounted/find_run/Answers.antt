use Rattle.std.proofs.Common.{ap}
use Rattle.pdb_report.specs.Answer.{files_keyed_in}
use Rattle.pdb_report.specs.Answer.{answered_in}
use Rattle.pdb_report.proofs.counted.CountedFileCounted.find_run.Goals as goal

pub returns-clause-same : goal.returns-clause-same
returns-clause-same c = ap (files_keyed_in answered_in) c.find_file_key_run.ensures.same
