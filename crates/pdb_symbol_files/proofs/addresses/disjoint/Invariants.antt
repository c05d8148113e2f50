use Rattle.pdb_symbol_files.proofs.CodeRanges.{IsCut}
use Rattle.pdb_symbol_files.proofs.RangeBounds.{BeginSoFar}
use Rattle.pdb_symbol_files.proofs.addresses.disjoint.Given as goal

abbrev pub invariant-loop-range : goal.invariant-loop-range
invariant-loop-range l = record {
  cut : IsCut (record { start = 0; end = 0 }) l.ranges l.made.items l.range-index l.done;
  begin : BeginSoFar l.ranges l.made.items l.done;
}
