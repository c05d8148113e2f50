use Rattle.pdb_report_tests.proofs.definitions.FreeStreams as facts
use Rattle.pdb_report_tests.proofs.definitions.free_streams.Goals as goal

pub returns-clause-free : goal.returns-clause-free
returns-clause-free c = facts.free

pub returns-clause-needed : goal.returns-clause-needed
returns-clause-needed c = facts.needed
