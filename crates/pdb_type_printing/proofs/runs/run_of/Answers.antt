use Rattle.std.specs.Prelude.{◌==◌}
use Rattle.pdb_type_printing.proofs.Repeats.{run_is, at_most}
use Rattle.pdb_type_printing.proofs.runs.run_of.Goals as goal

pub run_with-requires : goal.run_with-requires
run_with-requires c = at_most c.count_repeats-repeats.result
    (λ next. next.0 == c.args.argument.0) c.args.more.now c.count_repeats-repeats.ensures

pub returns-clause-list : goal.returns-clause-list
returns-clause-list c =
    run_is c.args.argument c.args.more.now c.run_with.result.rest.now c.run_with.result.repeats
    c.count_repeats-repeats.result c.run_with.ensures.repeats c.count_repeats-repeats.ensures
    c.run_with.ensures.rest
