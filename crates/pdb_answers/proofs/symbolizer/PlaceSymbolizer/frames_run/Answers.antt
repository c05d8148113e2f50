use Rattle.std.proofs.Common.{None, Ok, Some, ap}
use Rattle.pdb_answers.specs.Symbolizers.{scope_in}
use Rattle.pdb_frames.proofs.FrameRunLaw.{frames_run_by_holder}
use Rattle.pdb_answers.proofs.FrameRunSteps.{run_count, run_frames}
use Rattle.pdb_answers.proofs.HolderSteps.{bound_is, holder_is}
use Rattle.pdb_answers.proofs.symbolizer.PlaceSymbolizer.frames_run.Goals as goal

pub returns-in-None-clause-count : goal.returns-in-None-clause-count
returns-in-None-clause-count g c =
    let s = c.args.self.now in
    let place = c.args.place in
    frames_run_by_holder s.parts (scope_in g.P.ModuleProvider.provided s) place c.args.limit
    c.to_next_shared_bound.result None c.requires
    (holder_is _ s c.self.view_is place _ None c.in-None.is c.holding_contribution.ensures)
    (bound_is _ s c.self.view_is place c.args.limit _ c.to_next_shared_bound.ensures)

-- the frames are those at the place, which the contribution holds
pub returns-in_ok-found-in-Some-clause-frames : goal.returns-in_ok-found-in-Some-clause-frames
returns-in_ok-found-in-Some-clause-frames g c =
    let s = c.args.self.now in
    let place = c.args.place in
    let held = c.in-Some.contribution in
    ap Ok (run_frames s.parts (scope_in g.P.ModuleProvider.provided s) place c.args.limit held
    c.in_ok-found-in-Some.found
    (holder_is _ s c.self.view_is place _ (Some held) c.in-Some.is c.holding_contribution.ensures)
    c.in_ok-found-in-Some.ensures.run)

pub returns-in_ok-found-in-Some-clause-count : goal.returns-in_ok-found-in-Some-clause-count
returns-in_ok-found-in-Some-clause-count g c =
    let s = c.args.self.now in
    let place = c.args.place in
    let held = c.in-Some.contribution in
    run_count s.parts (scope_in g.P.ModuleProvider.provided s) place c.args.limit held
    c.in_ok-found-in-Some.found c.requires
    (holder_is _ s c.self.view_is place _ (Some held) c.in-Some.is c.holding_contribution.ensures)
    c.in_ok-found-in-Some.ensures.run
