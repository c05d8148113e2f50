use Rattle.std.proofs.Common.{◌<◌, ◌∙◌, length, arith}
use Rattle.std.proofs.lemmas.List.Elements.{All-push}
use Rattle.pdb_loading.specs.FileModules.{IsOfFile}
use Rattle.pdb_loading.proofs.FileSteps.{slots_more}
use Rattle.pdb_loading.proofs.file_modules.empty_slots.Goals as goal

pub loop-entry-preserved : goal.loop-entry-preserved
loop-entry-preserved c =
    let within : c.loop-entry.entry-index < length c.args.entries.now = omega arith in
    record {
      all = rw c.in_ok-push.ensures.items (All-push (IsOfFile c.args.file.now) c.loop-entry.slots.items c.slot_of.result c.loop-entry.invariant.all c.slot_of.ensures.of);
      kept = rw c.in_ok-push.ensures.items (slots_more c.args.file.now c.args.entries.now c.loop-entry.entry-index c.entry-item.result c.loop-entry.slots.items c.slot_of.result within c.entry-item.is (c.slot_of.ensures.parts ∙ c.of-parts.ensures) c.loop-entry.invariant.kept);
    }
