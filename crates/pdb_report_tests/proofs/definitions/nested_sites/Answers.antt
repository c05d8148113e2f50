use Rattle.pdb_report_tests.proofs.definitions.RowFacts as facts
use Rattle.pdb_report_tests.proofs.definitions.nested_sites.Goals as goal

pub returns : goal.returns
returns c = facts.nested_sites
