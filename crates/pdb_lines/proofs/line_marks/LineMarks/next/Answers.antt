use Rattle.std.proofs.Common.{◌≡◌, ◌∙◌, sym, length}
use Rattle.std.proofs.lemmas.Bool.{eqb-true}
use Rattle.pdb_lines.proofs.MarkSteps.{mark_of_end_here, behind_first}
use Rattle.pdb_lines.proofs.line_marks.LineMarks.next.Goals as goal

pub returns-then-is_empty : goal.returns-then-is_empty
returns-then-is_empty c =
    let none = c.in_default.ensures in
    let empty : length c.loop-mark.self.bytes.now ≡ 0 = eqb-true _ _ (sym c.if-is_empty.ensures) in
    let first = sym c.in-Some-first.ensures.value in
    let next = c.first_blocks-self.ensures in
    c.loop-mark.invariant ∙ rw (c.section.ensures, c.end.ensures)
    (mark_of_end_here c.in-Some-first.subsection.now _ _ _ _ _ _ none.0 none.1 first empty
    (behind_first _) next)
