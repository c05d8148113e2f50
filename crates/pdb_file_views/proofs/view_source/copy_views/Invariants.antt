use Rattle.pdb_file_views.proofs.SourceSteps.{Follow}
use Rattle.pdb_file_views.proofs.view_source.copy_views.Given as goal

abbrev pub invariant-loop-view : goal.invariant-loop-view
invariant-loop-view l = Follow l.views l.shares.items
