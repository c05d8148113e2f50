use Rattle.std.proofs.Common.{◌+◌, ◌∙◌, ap, inl, inr}
use Rattle.pdb_container.proofs.Words.{pages_more, pages_missing, pages_wrong, pages_done}
use Rattle.pdb_container.proofs.directory.pages_of.Goals.{then-page-lt1-via-then-page-lt1, then-page-lt1-via-else-page-lt1+then-used-page}
use Rattle.pdb_container.proofs.directory.pages_of.Goals as goal

-- by the lemma of each way that a step goes
pub loop-i-preserved : goal.loop-i-preserved
loop-i-preserved c = (
  rw c.in_ok-push.ensures.items (pages_more c.args.used c.args.count c.loop-i.i 0 c.loop-i.pages.items c.args.numbers.now c.loop-i-test.true c.if-i-numbers.false c.if-page-lt1.false c.if-used-page.false c.loop-i.invariant.0),
  c.in_ok-push.ensures.len ∙ ap (λ n. n + 1) c.loop-i.invariant.1,
)

pub returns-then-i-numbers-clause-exact : goal.returns-then-i-numbers-clause-exact
returns-then-i-numbers-clause-exact c =
    inr (pages_missing c.args.used c.args.count c.loop-i.i c.loop-i.pages.items c.args.numbers.now c.loop-i-test.true c.if-i-numbers.true c.loop-i.invariant.0)

pub returns-then-page-lt1-clause-exact : goal.returns-then-page-lt1-clause-exact
returns-then-page-lt1-clause-exact c =
    let wrong = pages_wrong c.args.used c.args.count c.loop-i.i 0 c.loop-i.pages.items c.args.numbers.now c.loop-i-test.true c.if-i-numbers.false in
    elim c.then-page-lt1.branch [
      | then-page-lt1-via-then-page-lt1 w ↦ inr (wrong (inl w.if-page-lt1.true) c.loop-i.invariant.0)
      | then-page-lt1-via-else-page-lt1+then-used-page w ↦ inr (wrong (inr w.if-used-page.true) c.loop-i.invariant.0)
    ]

pub returns-clause-exact : goal.returns-clause-exact
returns-clause-exact c =
    pages_done c.args.used c.args.count c.loop-i.i c.loop-i.pages.items c.args.numbers.now c.loop-i-test.false c.loop-i.invariant.0
