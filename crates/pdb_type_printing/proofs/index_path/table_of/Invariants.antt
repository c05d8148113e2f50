use Rattle.pdb_type_printing.specs.PathPlaces.{ArePlaced}
use Rattle.pdb_type_printing.proofs.index_path.table_of.Given as goal

abbrev pub invariant-loop-count : goal.invariant-loop-count
invariant-loop-count l = ArePlaced l.table.items l.path l.count
