use Rattle.std.proofs.Common.{ap, refl}
use Rattle.pdb_answers.proofs.KeptSteps.{data_known, stay_right}
use Rattle.pdb_answers.proofs.symbolizer.PlaceSymbolizer.file_key_run_at.Goals as goal

-- what is cached is the modules' own, and what is known to fail does
pub invariant_of-self-2 : goal.invariant_of-self-2
invariant_of-self-2 g c =
    let inside = c.self.inside in
    let kept = c.in_ok-number.ensures in
    let provided = g.P.ModuleProvider.provided in
    let known = data_known provided inside.data.provider.now inside.namer
    c.keep_place.new.self.cached kept.known c.module_index-module_index.ensures c.from.ensures
    c.known_at-known.ensures in
    stay_right provided inside.namer c.module_index-module_index.result
    (ap (λ d. d.provider.now) c.in_ok-number.ensures.same) refl known
    c.run_unless_known.ensures.known kept.kept
    c.self.invariant.1
