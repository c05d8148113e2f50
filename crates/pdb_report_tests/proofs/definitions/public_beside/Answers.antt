use Rattle.pdb_report_tests.proofs.definitions.RowFacts as facts
use Rattle.pdb_report_tests.proofs.definitions.public_beside.Goals as goal

pub returns : goal.returns
returns c = facts.public_beside
