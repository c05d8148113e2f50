use Rattle.std.specs.Prelude.{◌≡◌, length}
use Rattle.pdb_llvm_protocol.specs.Columns.{column_for, column_onto}
use Rattle.pdb_llvm_protocol.proofs.columns.column_for.Given as goal

-- the row that was found so far, with those that are still to come, gives the column
abbrev pub invariant-loop-row : goal.invariant-loop-row
invariant-loop-row l = column_onto l.offset l.found l.remaining
    ≡ column_for l.fn.line_program l.fn.start l.fn.offset

abbrev pub decreases-loop-row : goal.decreases-loop-row
decreases-loop-row l = length (l.remaining).items
