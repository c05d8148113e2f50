use Rattle.std.proofs.Common.{drop}
use Rattle.pdb_module_data.specs.InlinePieces.{AreApart}
use Rattle.pdb_module_data.proofs.call_rows.are_apart.Given as goal

-- if the rows left lie apart from the end of the last one on, all do
abbrev pub invariant-loop-row : goal.invariant-loop-row
invariant-loop-row l = AreApart l.end (drop l.row-index l.rows) → AreApart 0 l.rows
