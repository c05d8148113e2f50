use Rattle.pdb_addresses.proofs.RunSteps.{bounds_done}
use Rattle.pdb_addresses.proofs.section_list.bounds_in_order.Goals as goal

pub returns : goal.returns
returns c = bounds_done c.args.sections.now c.loop-section.section-index c.loop-section.bounds.items
    _ _ c.loop-section-test.false c.loop-section.invariant c.sort_unstable.ensures.permutation
    c.sort_unstable.ensures.sorted
