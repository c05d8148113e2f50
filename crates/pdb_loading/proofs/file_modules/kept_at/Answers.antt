use Rattle.std.proofs.Common.{◌∙◌, ap, sym, length}
use Rattle.std.specs.Prelude.{Some}
use Rattle.std.proofs.lemmas.Bool.{ltb-true, ltb-false}
use Rattle.std.proofs.lemmas.Option.{slice_get-get_or, slice_get_past}
use Rattle.pdb_loading.specs.declared.file_modules.ModuleSlot.{ModuleSlot}
use Rattle.pdb_loading.proofs.FileSteps.{slot_there, slot_past}
use Rattle.pdb_loading.proofs.file_modules.kept_at.Goals as goal

pub returns-in_default : goal.returns-in_default
returns-in_default c = slot_past c.args.reader.now c.args.slots.now c.args.number (slice_get_past c.args.slots.now c.args.number (ltb-false c.args.number (length c.args.slots.now) (sym c.in_default.ensures.lookup.0)))

pub returns-in_ok-kept_as_first-in-Some-get : goal.returns-in_ok-kept_as_first-in-Some-get
returns-in_ok-kept_as_first-in-Some-get c =
    let found = c.in-Some.ensures.lookup in
    slot_there c.args.reader.now c.args.slots.now c.args.number c.in-Some.slot.now c.in_ok-kept_as_first-in-Some-get.field-0.now
    (slice_get-get_or c.args.slots.now c.args.number c.in-Some.slot.now (ltb-true c.args.number (length c.args.slots.now) (sym found.0)) ∙ ap (λ (slot : ModuleSlot). Some slot) (sym found.1)) c.in_ok-kept_as_first-in-Some-get.ensures

pub returns-in_ok-kept_alone-in_default-get : goal.returns-in_ok-kept_alone-in_default-get
returns-in_ok-kept_alone-in_default-get c =
    let found = c.in-Some.ensures.lookup in
    slot_there c.args.reader.now c.args.slots.now c.args.number c.in-Some.slot.now c.in_ok-kept_alone-in_default-get.field-0.now
    (slice_get-get_or c.args.slots.now c.args.number c.in-Some.slot.now (ltb-true c.args.number (length c.args.slots.now) (sym found.0)) ∙ ap (λ (slot : ModuleSlot). Some slot) (sym found.1)) c.in_ok-kept_alone-in_default-get.ensures
