use Rattle.pdb_contributions.proofs.HolderSteps.{apart_ascend}
use Rattle.pdb_contributions.proofs.NearestBounds.{none_halved, some_halved}
use Rattle.pdb_contributions.proofs.held.next_bound_by_halving.Goals as goal

pub count_begun-count-requires : goal.count_begun-count-requires
count_begun-count-requires c = apart_ascend 0 c.args.contributions.now c.requires.apart

pub returns-then-count-eq0 : goal.returns-then-count-eq0
returns-then-count-eq0 c =
    let begun = rw c.place_number.ensures at c.count_begun-count.ensures.begun in
    none_halved c.args.place c.args.far c.count_begun-count.result.0 c.args.contributions.now
    c.numbered.result c.to_bounds_of_one-near.result c.requires.apart c.requires.short begun
    c.if-count-eq0.true c.numbered.ensures c.to_bounds_of_one-near.ensures

pub returns-else-count-eq0 : goal.returns-else-count-eq0
returns-else-count-eq0 c =
    let begun = rw c.place_number.ensures at c.count_begun-count.ensures.begun in
    some_halved c.args.place c.args.far c.count_begun-count.result.0 c.args.contributions.now
    c.numbered.result c.numbered-else-count-eq0.result c.to_bounds_of_one-near.result
    c.to_bounds_of_one.result c.requires.apart c.requires.short begun c.if-count-eq0.false
    c.numbered.ensures c.numbered-else-count-eq0.ensures c.to_bounds_of_one-near.ensures
    c.to_bounds_of_one.ensures
