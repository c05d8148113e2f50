use Rattle.pdb_subsections.proofs.FirstExports.{found, missing}
use Rattle.pdb_subsections.proofs.laws.first_export_counts.Goals as goal

pub returns-clause-found : goal.returns-clause-found
returns-clause-found c = found

pub returns-clause-missing : goal.returns-clause-missing
returns-clause-missing c = missing
