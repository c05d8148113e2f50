use Rattle.std.proofs.Common.{◌≡◌, ◌++◌, drop}
use Rattle.pdb_module_data.specs.FunctionLine.{row_starts}
use Rattle.pdb_module_data.proofs.function_rows.starts_of.Given as goal

-- the starts so far, with those of the rows left, are all
abbrev pub invariant-loop-row : goal.invariant-loop-row
invariant-loop-row l = l.starts.items ++ row_starts (drop l.row-index l.rows) ≡ row_starts l.rows
