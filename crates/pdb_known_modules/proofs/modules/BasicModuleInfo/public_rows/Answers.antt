use Rattle.std.proofs.Common.{ap, subst}
use Rattle.pdb_known_modules.specs.KnownModules.{ModuleData}
use Rattle.pdb_known_modules.specs.SubsectionRows.{AreRowsOfStream}
use Rattle.pdb_known_modules.proofs.KeptRows.{lent_at}
use Rattle.pdb_known_modules.proofs.modules.BasicModuleInfo.public_rows.Goals as goal

pub returns : goal.returns
returns g c =
    let stream = c.args.self.now.stream in
    let same = ap (λ (m : ModuleData). m.stream) c.self.view_is in
    let places = c.self.inside.subsection_rows.slots.items in
    let held = subst (λ s. AreRowsOfStream s places) same c.self.invariant.3 in
    let number = c.in_ok-number.number in
    lent_at stream c.args.start number c.get.result c.in_ok-number.ensures
    (c.get.ensures stream held)
