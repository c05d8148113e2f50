use Rattle.std.proofs.Common.{◌≡◌, length}
use Rattle.pdb_lines.specs.MarksLeft.{left_in}
use Rattle.pdb_lines.specs.LineRows.{rows_with_begun}
use Rattle.pdb_lines.proofs.line_iterator.next_row.Given as goal

-- the rows are those of before
abbrev pub invariant-loop-mark : goal.invariant-loop-mark
invariant-loop-mark l = rows_with_begun l.row (left_in l.marks)
    ≡ rows_with_begun l.fn.row (left_in l.fn.marks)

abbrev pub decreases-loop-mark : goal.decreases-loop-mark
decreases-loop-mark l = length (left_in l.marks).items
