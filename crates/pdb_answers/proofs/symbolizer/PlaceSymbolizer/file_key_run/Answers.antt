use Rattle.std.proofs.Common.{None, Ok, Some, ap}
use Rattle.pdb_answers.specs.Symbolizers.{scope_in}
use Rattle.pdb_frames.proofs.FileRunLaw.{file_run_by_holder}
use Rattle.pdb_answers.proofs.FileKeySteps.{run_count, run_file}
use Rattle.pdb_answers.proofs.HolderSteps.{bound_is, holder_is}
use Rattle.pdb_answers.proofs.symbolizer.PlaceSymbolizer.file_key_run.Goals as goal

pub returns-in-None-clause-count : goal.returns-in-None-clause-count
returns-in-None-clause-count g c =
    let s = c.args.self.now in
    let place = c.args.place in
    file_run_by_holder s.parts (scope_in g.P.ModuleProvider.provided s) place c.args.limit
    c.to_next_shared_bound.result None c.requires
    (holder_is _ s c.self.view_is place _ None c.in-None.is c.holding_contribution.ensures)
    (bound_is _ s c.self.view_is place c.args.limit _ c.to_next_shared_bound.ensures)

-- the key stands for the file at the place, which the contribution holds
pub returns-in_ok-found-in-Some-clause-file : goal.returns-in_ok-found-in-Some-clause-file
returns-in_ok-found-in-Some-clause-file g c =
    let s = c.args.self.now in
    let place = c.args.place in
    let held = c.in-Some.contribution in
    ap Ok (run_file s.parts (scope_in g.P.ModuleProvider.provided s) place c.args.limit held
    c.in_ok-found-in-Some.found
    (holder_is _ s c.self.view_is place _ (Some held) c.in-Some.is c.holding_contribution.ensures)
    c.in_ok-found-in-Some.ensures.run)

pub returns-in_ok-found-in-Some-clause-count : goal.returns-in_ok-found-in-Some-clause-count
returns-in_ok-found-in-Some-clause-count g c =
    let s = c.args.self.now in
    let place = c.args.place in
    let held = c.in-Some.contribution in
    run_count s.parts (scope_in g.P.ModuleProvider.provided s) place c.args.limit held
    c.in_ok-found-in-Some.found c.requires
    (holder_is _ s c.self.view_is place _ (Some held) c.in-Some.is c.holding_contribution.ensures)
    c.in_ok-found-in-Some.ensures.run
