use Rattle.std.specs.Prelude.{length}
use Rattle.example_calls.proofs.list_lines.list_procedure.Given as goal

-- each step gives one of the rows that are still to come
abbrev pub decreases-loop-row : goal.decreases-loop-row
decreases-loop-row g l = length l.rows.items
