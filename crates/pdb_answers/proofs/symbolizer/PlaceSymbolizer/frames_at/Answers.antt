use Rattle.std.proofs.Common.{Option, Result, ap, subst, ◌∙◌}
use Rattle.pdb_answers.specs.PlaceAnswers.{told_held}
use Rattle.pdb_answers.proofs.KeptSteps.{data_known, seen_by, stay_right}
use Rattle.pdb_answers.proofs.ToldSteps.{told_chosen}
use Rattle.pdb_owners.specs.Frames.{FunctionFrames}
use Rattle.pdb_resolving.specs.Fault.{Answers, Fault}
use Rattle.pdb_answers.proofs.symbolizer.PlaceSymbolizer.frames_at.Goals as goal

-- what is cached is the modules' own, and what is known to fail does
pub invariant_of-self-2 : goal.invariant_of-self-2
invariant_of-self-2 g c =
    let inside = c.self.inside in
    let kept = c.in_ok-number.ensures in
    let provided = g.P.ModuleProvider.provided in
    let known = data_known provided inside.data.provider.now inside.namer
    c.keep_place.new.self.cached kept.known c.module_index-module_index.ensures c.from.ensures
    c.known_at-known.ensures in
    stay_right provided inside.namer c.module_index-module_index.result
    (ap (λ d. d.provider.now) c.in_ok-number.ensures.same) c.frames_unless_known.ensures.same known
    c.frames_unless_known.ensures.known kept.kept
    c.self.invariant.1

-- what is reported of the frames in the chosen function is what is reported of those at the place
pub returns-clause-frames : goal.returns-clause-frames
returns-clause-frames g c =
    let inside = c.self.inside in
    let kept = c.in_ok-number.ensures in
    let provided = g.P.ModuleProvider.provided in
    let known = data_known provided inside.data.provider.now inside.namer
    c.keep_place.new.self.cached kept.known c.module_index-module_index.ensures c.from.ensures
    c.known_at-known.ensures in
    subst (λ (spec : Result (Option FunctionFrames) Fault).
    Answers (λ f. f) c.frames_unless_known.result spec)
    (told_chosen provided inside.data.provider.now inside.namer
    c.keep_place.new.self.parts inside.failed c.args.contribution c.args.place
    c.module_index-module_index.result _ _ known c.module_index-module_index.ensures
    c.in-Some.ensures
    ∙ ap (λ s. told_held provided s c.args.contribution c.args.place)
    (seen_by (ap (λ d. d.parts) c.in_ok-number.ensures.same) c.self.view_is))
    c.frames_unless_known.ensures.frames
