use Rattle.std.proofs.Common.{◌≡◌, ℕ, Option, None, IfOk, ap, subst, ◌∙◌}
use Rattle.pdb_answers.specs.PlaceAnswers.{frames_run_held}
use Rattle.pdb_answers.proofs.FrameRunSteps.{run_chosen}
use Rattle.pdb_answers.proofs.KeptSteps.{data_known, seen_by, stay_right}
use Rattle.pdb_owners.specs.Frames.{FunctionFrames}
use Rattle.pdb_answers.proofs.symbolizer.PlaceSymbolizer.frames_run_at.Goals as goal

-- what is cached is the modules' own, and what is known to fail does
pub invariant_of-self-2 : goal.invariant_of-self-2
invariant_of-self-2 g c =
    let inside = c.self.inside in
    let kept = c.in_ok-number.ensures in
    let provided = g.P.ModuleProvider.provided in
    let known = data_known provided inside.data.provider.now inside.namer
    c.keep_place.new.self.cached kept.known c.module_index-module_index.ensures c.from.ensures
    c.known_at-known.ensures in
    stay_right provided inside.namer c.module_index-module_index.result
    (ap (λ d. d.provider.now) c.in_ok-number.ensures.same) c.run_unless_known.ensures.same known
    c.run_unless_known.ensures.known kept.kept
    c.self.invariant.1

-- where no function is chosen there is nothing up to the next bound
pub returns-in_default-clause-run : goal.returns-in_default-clause-run
returns-in_default-clause-run g c =
    let inside = c.self.inside in
    let kept = c.in_ok-number.ensures in
    let provided = g.P.ModuleProvider.provided in
    let known = data_known provided inside.data.provider.now inside.namer
    c.keep_place.new.self.cached kept.known c.module_index-module_index.ensures c.from.ensures
    c.known_at-known.ensures in
    run_chosen provided inside.data.provider.now inside.namer
    c.keep_place.new.self.parts c.args.contribution c.args.place c.args.limit
    c.module_index-module_index.result _ _ None known c.module_index-module_index.ensures
    c.to_next_bound-far.ensures c.in_default.ensures
    ∙ ap (λ s. frames_run_held provided s c.args.contribution c.args.place c.args.limit)
    (seen_by (ap (λ d. d.parts) c.in_ok-number.ensures.same) c.self.view_is)

-- the run in the chosen function is that at the place
pub returns-clause-run : goal.returns-clause-run
returns-clause-run g c =
    let inside = c.self.inside in
    let kept = c.in_ok-number.ensures in
    let provided = g.P.ModuleProvider.provided in
    let known = data_known provided inside.data.provider.now inside.namer
    c.keep_place.new.self.cached kept.known c.module_index-module_index.ensures c.from.ensures
    c.known_at-known.ensures in
    subst (λ (run : Option FunctionFrames × ℕ).
    IfOk c.run_unless_known.result (λ found. found ≡ run))
    (run_chosen provided inside.data.provider.now inside.namer
    c.keep_place.new.self.parts c.args.contribution c.args.place c.args.limit
    c.module_index-module_index.result _ _ _ known c.module_index-module_index.ensures
    c.to_next_bound-far.ensures c.in-Some.ensures
    ∙ ap (λ s. frames_run_held provided s c.args.contribution c.args.place c.args.limit)
    (seen_by (ap (λ d. d.parts) c.in_ok-number.ensures.same) c.self.view_is))
    c.run_unless_known.ensures.run
