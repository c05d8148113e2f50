use Rattle.std.proofs.Common.{◌≡◌, Some, sym, ap, subst, ◌∙◌}
use Rattle.std.specs.Prelude.{slice_get, option_map}
use Rattle.pdb_known_modules.specs.SubsectionRows.{AreRowsOf}
use Rattle.pdb_known_modules.proofs.subsection_rows.SubsectionRows.get.Goals as goal

pub returns-in-Some-Some : goal.returns-in-Some-Some
returns-in-Some-Some c =
    let places = c.args.self.now.slots.items in
    let number = c.args.number in
    let rows = c.in-Some-Some.rows in
    let at : slice_get places number ≡ Some (Some rows) =
    sym c.slot_at.ensures ∙ ap (option_map (λ p. p.now)) c.in-Some-Some.is
    ∙ ap Some c.in-Some-Some.field-0-is in
    λ stream kept. subst (AreRowsOf stream number) (sym c.as_ref.ensures)
    (kept.each number rows at)

pub returns-in_default : goal.returns-in_default
returns-in_default c = λ stream kept. tt
