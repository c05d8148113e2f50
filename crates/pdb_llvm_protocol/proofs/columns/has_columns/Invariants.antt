use Rattle.std.specs.Prelude.{◌≡◌, length}
use Rattle.std.specs.List.{list_any}
use Rattle.pdb_llvm_protocol.specs.Columns.{has_column, has_columns}
use Rattle.pdb_llvm_protocol.proofs.columns.has_columns.Given as goal

-- a row that is still to come has a column if one has
abbrev pub invariant-loop-row : goal.invariant-loop-row
invariant-loop-row l = list_any has_column (l.remaining).items ≡ has_columns l.fn.line_program

abbrev pub decreases-loop-row : goal.decreases-loop-row
decreases-loop-row l = length (l.remaining).items
