-- Line marks that are still to come, as the code stores them.
use Rattle.pdb_container.specs.Listing.{Listing}
use Rattle.pdb_lines.specs.declared.line_mark.LineMark.{LineMark}
use Rattle.pdb_lines.specs.declared.line_marks.LineMarks.{LineMarks}
use Rattle.pdb_lines.specs.LineMarks.{marks_left}

-- the line marks that are still to come
abbrev pub left_in : LineMarks → Listing LineMark
left_in m = marks_left m.entries m.bytes.now m.subsections.now
