use Rattle.std.proofs.Common.{◌≡◌, sym, ap}
use Rattle.std.specs.Prelude.{None, Some, option_copied, slice_get}
use Rattle.pdb_known_modules.specs.KnownModules.{procedures_in}
use Rattle.pdb_module_data.specs.Procedures.{over}
use Rattle.pdb_answers.proofs.KeySteps.{by_place, numbered_none, over_as}
use Rattle.pdb_answers.proofs.functions.key_at.Goals as goal
use Rattle.pdb_answers.proofs.functions.key_at.Goals.{in-Some+else-is_some, in_default}

pub returns-in-Some-over-clause-chosen : goal.returns-in-Some-over-clause-chosen
returns-in-Some-over-clause-chosen g c =
    let procedures = procedures_in (option_copied c.args.known) in
    let none : over procedures c.args.place ≡ None = elim c.match-number_over.branch [
      | in-Some+else-is_some w ↦ numbered_none (λ q. q.now) w.procedure_numbered.result (slice_get procedures w.in-Some.number) (over procedures c.args.place)
          w.procedure_numbered.ensures w.if-is_some.ensures w.in-Some.ensures
      | in_default w ↦ sym w.in_default.ensures
    ] in
    by_place c.args.parts.now procedures c.args.contribution c.args.place c.in-Some-over.public c.public.inside.start_offset none
    (over_as c.parts.inside.publics c.args.parts.now.publics c.start_offset.result c.args.contribution.start_offset c.args.place (Some c.in-Some-over.public) (ap (λ p. p.publics) c.parts.view_is) c.start_offset.ensures c.in-Some-over.ensures)
    (sym (ap (λ f. f.start_offset) c.public.view_is))
