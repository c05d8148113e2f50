use Rattle.std.proofs.Common.{◌≡◌, subst, IfOk, Ok}
use Rattle.pdb_addr2line.specs.Context.{scope_in}
use Rattle.pdb_frames.specs.FailingParts.{told}
use Rattle.pdb_frames.specs.Failing.{failing}
use Rattle.pdb_frames.specs.FramesAt.{frames}
use Rattle.pdb_listings.specs.Functions.{own_frame}
use Rattle.pdb_listings.proofs.Told.{own_frame_told}
use Rattle.pdb_listings.proofs.functions.frames_found.Goals as goal

pub returns-clause-frames : goal.returns-clause-frames
returns-clause-frames g c =
    let provided = g.P.ModuleProvider.provided in
    let context = c.args.context.now in
    let part = failing context.parts (scope_in provided context) c.args.address in
    let read = frames context.parts (scope_in provided context) c.args.address in
    let shown = told context.failed part read in
    subst (λ x. IfOk c.if_readable.result (λ found. own_frame (Ok found) ≡ x))
    (own_frame_told context.failed part read)
    (c.if_readable.ensures shown c.find_frames.ensures.frames)
