use Rattle.std.proofs.Common.{◌≡◌, ◌++◌, ℕ, List, length}
use Rattle.pdb_symbolizer.specs.UndecoratedLines.{Undecorates}
use Rattle.pdb_symbolizer.proofs.undecorated.lines.append_lines.Given as goal

-- the lines before the rest were written
abbrev pub invariant-loop-line : goal.invariant-loop-line
invariant-loop-line l = (named : List ℕ) × Undecorates l.kind l.text l.rest named
    × (l.output.items ≡ l.fn.output.items ++ named)

abbrev pub decreases-loop-line : goal.decreases-loop-line
decreases-loop-line l = length l.rest
