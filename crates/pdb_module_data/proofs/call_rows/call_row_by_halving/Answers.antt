use Rattle.std.proofs.Common.{◌∙◌, true, false, sym}
use Rattle.pdb_module_data.proofs.CallRowSteps.{apart_ascend, none_halved, row_missing, row_tested}
use Rattle.pdb_module_data.proofs.call_rows.call_row_by_halving.Goals as goal

pub count_begun-count-requires : goal.count_begun-count-requires
count_begun-count-requires c = apart_ascend 0 c.args.rows.now c.requires

pub returns-then-count-eq0 : goal.returns-then-count-eq0
returns-then-count-eq0 c =
    let begun = rw c.place_number.ensures at c.count_begun-count.ensures.begun in
    sym (none_halved c.args.rows.now c.args.place c.count_begun-count.result.0 begun c.if-count-eq0.true)

pub returns-then-covers : goal.returns-then-covers
returns-then-covers c =
    let begun = rw c.place_number.ensures at c.count_begun-count.ensures.begun in
    row_tested c.args.rows.now c.args.place c.count_begun-count.result.0 c.in_ok-last.last true c.requires begun c.if-count-eq0.false c.in_ok-last.ensures (sym c.if-covers.true ∙ c.covers.ensures)

pub returns-else-covers : goal.returns-else-covers
returns-else-covers c =
    let begun = rw c.place_number.ensures at c.count_begun-count.ensures.begun in
    row_tested c.args.rows.now c.args.place c.count_begun-count.result.0 c.in_ok-last.last false c.requires begun c.if-count-eq0.false c.in_ok-last.ensures (sym c.if-covers.false ∙ c.covers.ensures)

pub returns-in_err-last : goal.returns-in_err-last
returns-in_err-last c =
    let begun = rw c.place_number.ensures at c.count_begun-count.ensures.begun in
    c.from_residual.ensures ∙ row_missing c.args.rows.now c.args.place c.count_begun-count.result.0 c.requires begun c.if-count-eq0.false c.in_err-last.ensures
