use Rattle.std.proofs.Common.{◌≡◌, sym, subst, ◌∙◌}
use Rattle.pdb_loading.specs.Held.{Held}
use Rattle.pdb_loading.specs.LoadedFile.{IsHeld}
use Rattle.pdb_addr2line.proofs.FileSteps.{opened}
use Rattle.pdb_addr2line.proofs.file_symbolizer.of_held.Goals as goal

-- what is held, and the parts that were made of it, are the file's
pub invariant_of-result : goal.invariant_of-result
invariant_of-result g c =
    let file = c.into_parts-file.result.0 in
    let held_is : c.in-Ok.held.now ≡ c.into_parts-file.result.1 = c.in-Ok.ensures ∙ c.from_held.ensures in
    let is = subst (λ (h : Held). IsHeld file h) (sym held_is) c.into_parts-file.ensures.held in
    opened c.args.source.order c.args.flags.bits c.args.source.views c.args.source.contents.numbers file c.in-Ok.held.now c.in-Ok-make_context_with_order.context (λ known. c.into_parts-file.ensures.file ∙ c.requires known) is c.in-Ok-make_context_with_order.ensures
