use Rattle.pdb_file_views.specs.Views.{Grows}
use Rattle.pdb_file_views.proofs.file_views.FileViews.read_all.Given as goal

abbrev pub invariant-loop-slices : goal.invariant-loop-slices
invariant-loop-slices g l = Grows l.initial.self l.self
