use Rattle.pdb_report_tests.proofs.definitions.RowFacts as facts
use Rattle.pdb_report_tests.proofs.definitions.one_line.Goals as goal

pub returns : goal.returns
returns c = facts.one_line
