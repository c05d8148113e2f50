use Rattle.std.proofs.Common.{◌≡◌, ◌++◌, length}
use Rattle.pdb_module_data.specs.InlinePieces.{kept_rows}
use Rattle.pdb_module_data.proofs.call_rows.push_kept.Given as goal

-- with what is stored of the rows left, it is what is stored of all
abbrev pub invariant-loop-row : goal.invariant-loop-row
invariant-loop-row l = l.kept.items ++ kept_rows l.rows.items ≡ l.fn.kept.items ++ kept_rows l.fn.rows.items

abbrev pub decreases-loop-row : goal.decreases-loop-row
decreases-loop-row l = length l.rows.items
