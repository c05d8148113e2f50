use Rattle.std.specs.Prelude.{refl}
use Rattle.clap.proofs.OnLiterals.{clap_on_literals}
use Rattle.pdb_report_tests.proofs.words.definitions.sizes_by_file.Goals as goal

pub returns-clause-taken : goal.returns-clause-taken
unfolding clap_on_literals
returns-clause-taken c = refl

pub returns-clause-task : goal.returns-clause-task
unfolding clap_on_literals
returns-clause-task c = refl

pub returns-clause-flag : goal.returns-clause-flag
unfolding clap_on_literals
returns-clause-flag c = refl

pub returns-clause-no_flag : goal.returns-clause-no_flag
unfolding clap_on_literals
returns-clause-no_flag c = refl
