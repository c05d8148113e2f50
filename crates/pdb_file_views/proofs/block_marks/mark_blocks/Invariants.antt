use Rattle.pdb_file_views.specs.Blocks.{StayMarked, WereFree}
use Rattle.pdb_file_views.proofs.BlockSteps.{FreeFrom, MarkedFrom}
use Rattle.pdb_file_views.proofs.block_marks.mark_blocks.Given as goal

-- the blocks before this one were free, and are marked
abbrev pub invariant-loop-block : goal.invariant-loop-block
invariant-loop-block l = record {
  free : FreeFrom l.initial.marks.items l.first l.block;
  marked : MarkedFrom l.marks.items l.first l.block;
  stay : StayMarked l.initial.marks.items l.marks.items;
  were : WereFree l.initial.marks.items l.marks.items;
}
