use Rattle.std.proofs.Common.{◌≡◌, drop}
use Rattle.std.specs.List.{list_any}
use Rattle.pdb_module_data.specs.InlinePieces.{covers_kept}
use Rattle.pdb_module_data.proofs.deepest_site.is_any_over.Given as goal

-- one of the rows left is over the place where one of all is
abbrev pub invariant-loop-row : goal.invariant-loop-row
invariant-loop-row l =
    list_any (covers_kept l.place) (drop l.row-index l.rows) ≡ list_any (covers_kept l.place) l.rows
