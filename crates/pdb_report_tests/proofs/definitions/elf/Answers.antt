use Rattle.pdb_report_tests.proofs.definitions.RowFacts as facts
use Rattle.pdb_report_tests.proofs.definitions.elf.Goals as goal

pub returns : goal.returns
returns c = facts.elf
