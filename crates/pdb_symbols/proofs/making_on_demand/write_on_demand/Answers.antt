use Rattle.std.proofs.Common.{refl, true}
use Rattle.pdb_symbols.proofs.FileRoads.{says}
use Rattle.pdb_symbols.proofs.MakingSteps.{ends_as, err_in, not_made, ok_in}
use Rattle.pdb_symbols.proofs.making_on_demand.write_on_demand.Goals as goal
use Rattle.pdb_symbols.proofs.making_on_demand.write_on_demand.Goals.{in-Ok, in-Err}

pub returns-clause-writes : goal.returns-clause-writes
returns-clause-writes g c = elim c.match-outcome.branch [
  | in-Ok w ↦ rw (w.output-is, w.outcome-is) (λ agreed.
      ends_as true c.args.options.now.demangle _ _ _ _ _ _ _ _ w.write_made-outcome.result
      (ok_in _ _ _ w.in-Ok.is (c.made_on_demand-outcome.ensures.ok agreed))
      w.write_made-outcome.ensures.ok w.write_made-outcome.ensures.part
      w.write_made-outcome.ensures.fails)
  | in-Err w ↦ rw (w.output-is, w.outcome-is) (λ agreed.
      not_made true c.args.options.now.demangle _ _ _ _ _ refl
      (err_in _ _ _ w.in-Err.is (c.made_on_demand-outcome.ensures.failed agreed)))
]

pub returns-clause-says : goal.returns-clause-says
returns-clause-says g c = λ agreed.
    says true c.args.options.now.demangle _ _ _ _ _ _ (returns-clause-writes g c agreed)
