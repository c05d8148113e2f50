use Rattle.pdb_answers.proofs.StandingParts.{kept_after, told_after, stay_after}
use Rattle.pdb_answers.proofs.laws.failed_parts_stand.Goals as goal

pub returns : goal.returns
returns g c = record { kept = kept_after (Unit {0}); again = told_after (Unit {0}); stay = stay_after }
