use Rattle.std.proofs.Common.{Some, subst}
use Rattle.pdb_answers.specs.Choice.{held_at}
use Rattle.pdb_answers.specs.FailingParts.{told}
use Rattle.pdb_frames.specs.Failing.{failing_if_held}
use Rattle.pdb_frames.specs.FramesAt.{frames_if_held}
use Rattle.pdb_addr2line.specs.Context.{Context, scope_in}
use Rattle.pdb_resolving.specs.Fault.{Answers}
use Rattle.pdb_addr2line.proofs.context.Context.find_at.Goals as goal

-- the symbolizer's answer is the context's
pub returns-clause-frames : goal.returns-clause-frames
returns-clause-frames g c =
    let provided = g.P.ModuleProvider.provided in
    let place = Some c.args.place in
    subst (λ (s : Context _). Answers (λ f. f) c.frames.result
    (told s.failed (failing_if_held s.parts (scope_in provided s) (held_at s.parts place))
    (frames_if_held s.parts (scope_in provided s) (held_at s.parts place))))
    c.self.view_is c.frames.ensures.frames
