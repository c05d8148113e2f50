use Rattle.pdb_loading.proofs.StreamsRead.{streams_read}
use Rattle.pdb_report.proofs.OtherFiles.{alike, same_reports}
use Rattle.pdb_report.proofs.laws.files_that_were_read.Goals as goal

pub returns-clause-alike : goal.returns-clause-alike
returns-clause-alike c = alike

pub returns-clause-streams : goal.returns-clause-streams
returns-clause-streams c = streams_read

pub returns-clause-reports : goal.returns-clause-reports
returns-clause-reports c = same_reports
