use Rattle.std.proofs.Common.{◌+◌, ◌-◌, ap, drop, length, take, true, ◌∙◌}
use Rattle.pdb_listings.specs.Sizes.{bytes_where, size_in}
use Rattle.pdb_listings.proofs.Sums.{as_totals, taken_and_left}
use Rattle.pdb_listings.proofs.changes.changes_of.Goals as goal

pub returns-clause-old : goal.returns-clause-old
returns-clause-old c = λ test. c.in_ok-append_came.ensures.old test ∙ c.in_ok-append_gone.ensures.old test
    ∙ ap (λ n. n + bytes_where test (take (length c.args.old.now - c.loop-i.i) (drop c.loop-i.i c.args.old.now))) (c.loop-i.invariant.old test)
    ∙ taken_and_left (size_in test) c.args.old.now c.loop-i.i

pub returns-clause-new : goal.returns-clause-new
returns-clause-new c = λ test. c.in_ok-append_came.ensures.new test
    ∙ ap (λ n. n + bytes_where test (take (length c.args.new.now - c.loop-i.j) (drop c.loop-i.j c.args.new.now))) (c.in_ok-append_gone.ensures.new test ∙ c.loop-i.invariant.new test)
    ∙ taken_and_left (size_in test) c.args.new.now c.loop-i.j

pub returns-clause-total : goal.returns-clause-total
returns-clause-total c = as_totals _ _ _ _ (returns-clause-old c (λ _. true)) (returns-clause-new c (λ _. true))
