use Rattle.std.specs.Prelude.{◌≡◌, length}
use Rattle.pdb_module_data.specs.FunctionLine.{function_rows}
use Rattle.pdb_module_data.proofs.RowSteps.{rows_onto}
use Rattle.pdb_module_data.proofs.function_rows.read_rows.Given as goal

-- the rows so far, with those that are still to come, are all
abbrev pub invariant-loop-rows : goal.invariant-loop-rows
invariant-loop-rows l = rows_onto l.rows.items l.remaining ≡ function_rows l.fn.line_program l.fn.start

abbrev pub decreases-loop-rows : goal.decreases-loop-rows
decreases-loop-rows l = length (l.remaining).items
