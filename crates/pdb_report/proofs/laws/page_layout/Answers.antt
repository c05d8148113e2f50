use Rattle.pdb_report.proofs.PageLayout.{same_reports}
use Rattle.pdb_report.proofs.laws.page_layout.Goals as goal

pub returns : goal.returns
returns c = same_reports
