use Rattle.std.proofs.Common.{◌≡◌, ◌++◌, drop}
use Rattle.pdb_addresses.specs.SectionRun.{bounds}
use Rattle.pdb_addresses.proofs.section_list.bounds_in_order.Given as goal

-- the bounds so far, before those of the sections that are left
abbrev pub invariant-loop-section : goal.invariant-loop-section
invariant-loop-section l = l.bounds.items ++ bounds (drop l.section-index l.sections)
    ≡ bounds l.sections
