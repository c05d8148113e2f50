use Rattle.std.proofs.Common.{Some, None}
use Rattle.pdb_answers.specs.Symbolizers.{scope_in}
use Rattle.pdb_answers.proofs.HolderSteps.{bound_is, holder_is}
use Rattle.pdb_frames.proofs.RunLaw.{run_by_holder, run_if_ok}
use Rattle.pdb_answers.proofs.symbolizer.PlaceSymbolizer.key_run.Goals as goal

pub returns-in-None-clause-count : goal.returns-in-None-clause-count
returns-in-None-clause-count g c =
    let s = c.args.self.now in
    let place = c.args.place in
    run_by_holder s.parts (scope_in g.P.ModuleProvider.provided s) place c.args.limit
    c.to_next_shared_bound.result None c.requires
    (holder_is _ s c.self.view_is place _ None c.in-None.is c.holding_contribution.ensures)
    (bound_is _ s c.self.view_is place c.args.limit _ c.to_next_shared_bound.ensures)

pub returns-in-Some-clause-count : goal.returns-in-Some-clause-count
returns-in-Some-clause-count g c =
    let s = c.args.self.now in
    let place = c.args.place in
    let held = Some c.in-Some.contribution in
    run_if_ok s.parts (scope_in g.P.ModuleProvider.provided s) place c.args.limit held
    c.key_run_at.result c.requires
    (holder_is _ s c.self.view_is place _ held c.in-Some.is c.holding_contribution.ensures)
    c.key_run_at.ensures.count
