use Rattle.std.proofs.Common.{◌≡◌, ◌≤◌, length, drop}
use Rattle.pdb_module_data.specs.RowPieces.{row_spans}
use Rattle.pdb_module_data.proofs.function_rows.row_spans.Given as goal

-- the spans are those of the rows from the number on
abbrev pub invariant-loop-number : goal.invariant-loop-number
invariant-loop-number l = record {
  in_range : l.number ≤ length l.rows;
  so_far : l.spans.items ≡ row_spans l.number (drop l.number l.rows);
}

abbrev pub decreases-loop-number : goal.decreases-loop-number
decreases-loop-number l = l.number
