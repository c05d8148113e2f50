use Rattle.std.proofs.Common.{ap, refl, subst}
use Rattle.pdb_known_modules.specs.KnownModules.{ModuleData}
use Rattle.pdb_known_modules.specs.SubsectionRows.{AreRowsOfStream}
use Rattle.pdb_known_modules.proofs.KeptProcedures.{lent_both}
use Rattle.pdb_known_modules.proofs.modules.BasicModuleInfo.extended_procedure.Goals as goal

pub returns : goal.returns
returns g c = λ extended is.
    let stream = c.args.self.now.stream in
    let same = ap (λ (m : ModuleData). m.stream) c.self.view_is in
    let places = c.self.inside.subsection_rows.slots.items in
    let held = subst (λ s. AreRowsOfStream s places) same c.self.invariant.3 in
    lent_both stream extended c.args.procedure.now c.in_ok-kept.kept.now c.in_ok-rows.rows.now _ is
    (c.in_ok-kept.ensures extended is) (c.in_ok-rows.ensures stream held) refl refl
