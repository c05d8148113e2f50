use Rattle.std.proofs.Common.{ap}
use Rattle.pdb_frames.specs.ChosenSeen.{chosen_seen}
use Rattle.pdb_answers.specs.declared.known_failures.Asked.{Asked}
use Rattle.pdb_answers.specs.declared.known_failures.KnownFailure.{KnownFailure}
use Rattle.pdb_answers.proofs.KnownSteps.{known_now}
use Rattle.pdb_answers.proofs.known_failures.KnownFailures.keep_first_failing.Goals as goal

-- what is stored is the part that fails in the functions like the chosen one
pub returns : goal.returns
returns c =
    let kept : Asked → KnownFailure = λ a. record { module_index = c.args.module_index; asked = a; part = c.args.part } in
    λ own h known.
    known_now own c.args.self.now (record { by_number = c.insert.new.self }) c.number_for.result c.args.module_index (chosen_seen c.args.chosen) c.args.part (kept c.failing-asked.result)
    c.in_ok-insert.ensures.updates (ap kept c.failing-asked.ensures) h known
