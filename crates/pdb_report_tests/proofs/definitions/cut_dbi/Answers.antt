use Rattle.pdb_report_tests.proofs.definitions.RowFacts as facts
use Rattle.pdb_report_tests.proofs.definitions.cut_dbi.Goals as goal

pub returns : goal.returns
returns c = facts.cut_dbi
