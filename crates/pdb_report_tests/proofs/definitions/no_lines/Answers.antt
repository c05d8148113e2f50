use Rattle.pdb_report_tests.proofs.definitions.RowFacts as facts
use Rattle.pdb_report_tests.proofs.definitions.no_lines.Goals as goal

pub returns-clause-loads : goal.returns-clause-loads
returns-clause-loads c = facts.no_lines_loads

pub returns-clause-answers : goal.returns-clause-answers
returns-clause-answers c = facts.no_lines_answers
