use Rattle.std.proofs.Common.{◌≡◌, ◌++◌, drop}
use Rattle.pdb_addresses.specs.SectionOrder.{greatest_ends}
use Rattle.pdb_addresses.proofs.section_list.greatest_ends.Given as goal

-- the greatest ends so far, before those of the sections that are left
abbrev pub invariant-loop-section : goal.invariant-loop-section
invariant-loop-section l = l.ends.items ++ greatest_ends l.greatest
    (drop l.section-index l.sections) ≡ greatest_ends 0 l.sections
