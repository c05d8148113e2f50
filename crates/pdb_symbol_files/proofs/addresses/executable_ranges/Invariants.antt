use Rattle.std.proofs.Common.{take}
use Rattle.pdb_owners.specs.Counts.{is_section_bound}
use Rattle.pdb_symbol_files.specs.Code.{HoldsCode, LieBetween}
use Rattle.pdb_symbol_files.proofs.addresses.executable_ranges.Given as goal

-- the ranges are those of the sections so far
abbrev pub invariant-loop-section : goal.invariant-loop-section
invariant-loop-section l = record {
  code : HoldsCode l.ranges.items (take l.section-index l.sections);
  bounds : LieBetween (is_section_bound l.sections) l.ranges.items;
}
