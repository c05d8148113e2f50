use Rattle.pdb_module_data.proofs.SiteRowSteps.{AreFoundBelow}
use Rattle.pdb_module_data.proofs.site_rows.site_pieces.Given as goal

abbrev pub invariant-loop-number : goal.invariant-loop-number
invariant-loop-number l = AreFoundBelow l.number l.rows l.starts l.pieces
