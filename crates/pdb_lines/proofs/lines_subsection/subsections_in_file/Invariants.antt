use Rattle.std.proofs.Common.{◌≡◌, length}
use Rattle.pdb_container.proofs.Entries.{entries_front}
use Rattle.pdb_subsections.specs.Subsections.{subsections_of}
use Rattle.pdb_lines.specs.LinesSubsections.{lines_subsections_of}
use Rattle.pdb_lines.proofs.lines_subsection.subsections_in_file.Given as goal

-- the lines subsections so far, before those of the subsections that remain
abbrev pub invariant-loop-subsections : goal.invariant-loop-subsections
invariant-loop-subsections l = entries_front l.subsections.items (lines_subsections_of l.remaining)
    ≡ lines_subsections_of (subsections_of l.fn.bytes)

abbrev pub decreases-loop-subsections : goal.decreases-loop-subsections
decreases-loop-subsections l = length l.remaining.items
