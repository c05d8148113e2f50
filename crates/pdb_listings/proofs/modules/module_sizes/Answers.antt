use Rattle.std.proofs.Common.{◌∙◌, arith}
use Rattle.pdb_symbols_modules.specs.declared.contributions.DBISectionContribution.{
  DBISectionContribution,
}
use Rattle.pdb_listings.specs.Contributed.{contributed}
use Rattle.pdb_listings.proofs.Sums.{all_taken, counted_more}
use Rattle.pdb_listings.proofs.modules.module_sizes.Goals as goal

pub add_contribution-requires : goal.add_contribution-requires
add_contribution-requires c =
    omega (arith, c.loop-contribution.invariant.room, c.loop-contribution-test.true, c.requires)

pub loop-contribution-preserved : goal.loop-contribution-preserved
loop-contribution-preserved c = record {
  each = λ test. counted_more (contributed test) c.args.contributions.now c.loop-contribution.contribution-index _ _ _ c.loop-contribution-test.true (c.in_ok-add_contribution.ensures.each test) (c.loop-contribution.invariant.each test);
  total = counted_more (λ (it : DBISectionContribution). it.size) c.args.contributions.now c.loop-contribution.contribution-index _ _ _ c.loop-contribution-test.true c.in_ok-add_contribution.ensures.total c.loop-contribution.invariant.total;
  room = omega (arith, c.in_ok-add_contribution.ensures.room, c.loop-contribution.invariant.room);
}

pub returns-clause-each : goal.returns-clause-each
returns-clause-each c = λ test. c.loop-contribution.invariant.each test
    ∙ all_taken (contributed test) c.args.contributions.now c.loop-contribution.contribution-index c.loop-contribution-test.false

pub returns-clause-total : goal.returns-clause-total
returns-clause-total c = c.loop-contribution.invariant.total
    ∙ all_taken (λ (it : DBISectionContribution). it.size) c.args.contributions.now c.loop-contribution.contribution-index c.loop-contribution-test.false
