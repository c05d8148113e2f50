use Rattle.std.specs.Prelude.{refl}
use Rattle.clap.proofs.OnLiterals.{clap_on_literals}
use Rattle.pdb_report_tests.proofs.words.definitions.refused_words.Goals as goal

pub returns-clause-missing : goal.returns-clause-missing
unfolding clap_on_literals
returns-clause-missing c = refl

pub returns-clause-help : goal.returns-clause-help
unfolding clap_on_literals
returns-clause-help c = refl
