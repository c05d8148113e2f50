use Rattle.pdb_report_tests.proofs.laws.DeepAnswers.{answer_deep}
use Rattle.pdb_report_tests.proofs.laws.answers_as_deep.Goals as goal

pub returns : goal.returns
returns c = answer_deep
