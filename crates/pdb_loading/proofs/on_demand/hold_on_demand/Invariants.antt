use Rattle.pdb_file_views.specs.Views.{Grows}
use Rattle.pdb_loading.proofs.on_demand.hold_on_demand.Given as goal

abbrev pub invariant-loop : goal.invariant-loop
invariant-loop g l = Grows l.initial.views l.views
