use Rattle.std.proofs.Common.{◌≡◌, length}
use Rattle.pdb_lines.specs.MarksLeft.{left_in}
use Rattle.pdb_lines.proofs.line_marks.LineMarks.next.Given as goal

-- the marks are those of before
abbrev pub invariant-loop-mark : goal.invariant-loop-mark
invariant-loop-mark l = left_in l.fn.self ≡ left_in l.self

abbrev pub decreases-loop-mark : goal.decreases-loop-mark
decreases-loop-mark l = length l.self.bytes.now
