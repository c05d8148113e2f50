use Rattle.std.proofs.Common.{ℕ, List, IfErr, subst, ◌∙◌}
use Rattle.pdb_loading.specs.FileLoads.{RefusesFile}
use Rattle.pdb_loading.proofs.OnDemand.{bytes_agree}
use Rattle.pdb_loading.proofs.on_demand.hold_views.Goals as goal

-- the fault of what was read is that of the file
pub returns-clause-refused : goal.returns-clause-refused
returns-clause-refused c = λ order. λ known.
    subst (λ (file : List ℕ). IfErr c.hold_file.result (RefusesFile order file)) (c.in-Ok.ensures ∙ bytes_agree c.args.views.now c.args.contents.now.numbers known) (c.hold_file.ensures.refused order)
