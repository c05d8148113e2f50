use Rattle.std.proofs.Common.{◌≡◌, ◌+◌, ◌++◌, drop}
use Rattle.pdb_contributions.specs.Publics.{section_ends_from, section_ends}
use Rattle.pdb_contributions.proofs.public_entries.push_section_ends.Given as goal

-- the placeholders so far, before those at the ends of the sections that are left
abbrev pub invariant-loop-index : goal.invariant-loop-index
invariant-loop-index l = l.functions.items ++ section_ends_from (l.index + 1)
    (drop l.index l.sections) ≡ l.fn.functions.items ++ section_ends l.sections
