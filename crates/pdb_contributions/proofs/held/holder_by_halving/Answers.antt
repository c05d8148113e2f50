use Rattle.std.proofs.Common.{◌∙◌, true, false, sym}
use Rattle.pdb_contributions.proofs.HolderSteps.{apart_ascend, none_halved, last_missing}
use Rattle.pdb_contributions.proofs.HolderSteps.{last_tested}
use Rattle.pdb_contributions.proofs.held.holder_by_halving.Goals as goal

pub count_begun-count-requires : goal.count_begun-count-requires
count_begun-count-requires c = apart_ascend 0 c.args.contributions.now c.requires

pub returns-then-count-eq0 : goal.returns-then-count-eq0
returns-then-count-eq0 c =
    let begun = rw c.place_number.ensures at c.count_begun-count.ensures.begun in
    sym (none_halved c.args.contributions.now c.args.place c.count_begun-count.result.0 begun
    c.if-count-eq0.true)

pub returns-then-holds : goal.returns-then-holds
returns-then-holds c =
    let begun = rw c.place_number.ensures at c.count_begun-count.ensures.begun in
    last_tested c.args.contributions.now c.args.place c.count_begun-count.result.0 c.in_ok-last.last
    true c.requires begun c.if-count-eq0.false c.in_ok-last.ensures
    (sym c.if-holds.true ∙ c.holds.ensures)

pub returns-else-holds : goal.returns-else-holds
returns-else-holds c =
    let begun = rw c.place_number.ensures at c.count_begun-count.ensures.begun in
    last_tested c.args.contributions.now c.args.place c.count_begun-count.result.0 c.in_ok-last.last
    false c.requires begun c.if-count-eq0.false c.in_ok-last.ensures
    (sym c.if-holds.false ∙ c.holds.ensures)

pub returns-in_err-last : goal.returns-in_err-last
returns-in_err-last c =
    let begun = rw c.place_number.ensures at c.count_begun-count.ensures.begun in
    c.from_residual.ensures ∙ last_missing c.args.contributions.now c.args.place
    c.count_begun-count.result.0 c.requires begun c.if-count-eq0.false c.in_err-last.ensures
