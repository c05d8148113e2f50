-- The frames of a context's run are those of the symbolizer's, owned.
use Rattle.std.proofs.Common.{◌≡◌, subst, sym, Ok}
use Rattle.pdb_addr2line.specs.Context.{Context, scope_in}
use Rattle.pdb_frames.specs.FrameRuns.{frames_here, readable}
use Rattle.pdb_resolving.specs.Fault.{Answers}
use Rattle.pdb_addr2line.proofs.context.Context.find_frames_run.Goals as goal

-- the symbolizer's run is the context's
pub returns-clause-frames : goal.returns-clause-frames
returns-clause-frames g c =
    let provided = g.P.ModuleProvider.provided in
    let place = c.args.offset in
    let old = c.args.self.now in
    let found =
    subst (λ (s : Context _). Answers (λ run. run.0) c.frames_run-run.result
    (Ok (readable (frames_here s.parts (scope_in provided s) place))))
    c.self.view_is c.frames_run-run.ensures.frames in
    let owned = c.owned_run-run.ensures.frames
    (Ok (readable (frames_here old.parts (scope_in provided old) place))) found in
    subst (λ run. Answers (λ run. run.0) run
    (Ok (readable (frames_here old.parts (scope_in provided old) place))))
    (sym c.counted.ensures.answer) owned
