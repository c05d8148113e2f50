use Rattle.std.proofs.Common.{◌≡◌, length}
use Rattle.pdb_lines.specs.RowsToCome.{to_come}
use Rattle.pdb_lines.proofs.inlinee_line_iterator.InlineeLineIteratorFallibleIterator.next.Given as goal

-- what is still to come is what was to come before the loop
abbrev pub invariant-loop-annotation : goal.invariant-loop-annotation
invariant-loop-annotation l = to_come l.self-inside.origin l.self-inside.waiting
    l.self-inside.annotations ≡ l.fn.self

abbrev pub decreases-loop-annotation : goal.decreases-loop-annotation
decreases-loop-annotation l = length l.self-inside.annotations.items
