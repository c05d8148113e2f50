use Rattle.std.proofs.Common.{◌≡◌, length}
use Rattle.pdb_subsections.specs.Subsections.{subsections_of, first_of}
use Rattle.pdb_subsections.proofs.subsection.find_subsection.Given as goal

-- none of the kind was passed over
abbrev pub invariant-loop-subsection : goal.invariant-loop-subsection
invariant-loop-subsection l = first_of l.fn.kind l.subsections
    ≡ first_of l.fn.kind (subsections_of l.fn.bytes)

abbrev pub decreases-loop-subsection : goal.decreases-loop-subsection
decreases-loop-subsection l = length l.subsections.items
