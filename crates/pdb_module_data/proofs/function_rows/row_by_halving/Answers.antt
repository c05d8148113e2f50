use Rattle.std.proofs.Common.{sym, ◌∙◌, subst, arith}
use Rattle.pdb_module_data.proofs.AscendingRows.{AreSplit, row_at_split, row_in_front, split_by, split_within, starts_ascend}
use Rattle.pdb_module_data.proofs.function_rows.row_by_halving.Goals as goal

pub count_begun-count-requires : goal.count_begun-count-requires
count_begun-count-requires c = starts_ascend 0 c.args.rows.now c.requires

pub returns-then-count-eq0-clause-row : goal.returns-then-count-eq0-clause-row
returns-then-count-eq0-clause-row c =
    let begun = rw c.from.ensures at c.count_begun-count.ensures.begun in
    let at = split_by c.args.rows.now c.args.offset c.count_begun-count.result.0 begun in
    let none = subst (AreSplit c.args.rows.now c.args.offset) c.if-count-eq0.true at in
    sym (row_at_split 0 c.args.rows.now c.args.offset 0 c.requires (omega arith) none)

pub returns-else-count-eq0-clause-row : goal.returns-else-count-eq0-clause-row
returns-else-count-eq0-clause-row c =
    let count = c.count_begun-count.result.0 in
    let begun = rw c.from.ensures at c.count_begun-count.ensures.begun in
    let within = split_within c.args.rows.now c.args.offset count begun in
    let split = split_by c.args.rows.now c.args.offset count begun in
    let at = row_at_split 0 c.args.rows.now c.args.offset count c.requires within split in
    let front = row_in_front c.args.rows.now count c.if-count-eq0.false in
    c.row_numbered.ensures ∙ sym front ∙ sym at
