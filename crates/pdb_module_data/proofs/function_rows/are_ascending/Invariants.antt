use Rattle.std.proofs.Common.{drop}
use Rattle.pdb_module_data.specs.RowPieces.{AreAscending}
use Rattle.pdb_module_data.proofs.function_rows.are_ascending.Given as goal

-- if the rows left ascend from the last one on, all do
abbrev pub invariant-loop-row : goal.invariant-loop-row
invariant-loop-row l = AreAscending l.last (drop l.row-index l.rows) → AreAscending 0 l.rows
