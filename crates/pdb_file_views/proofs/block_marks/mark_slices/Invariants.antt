use Rattle.std.specs.Prelude.{take}
use Rattle.pdb_container.specs.Places.{places_of}
use Rattle.pdb_file_views.specs.Blocks.{AreDistinct, AreFree, AreMarked, StayMarked, WereFree}
use Rattle.pdb_file_views.proofs.block_marks.mark_slices.Given as goal

-- the slices before this one were free and lie apart, and are marked
abbrev pub invariant-loop-slice : goal.invariant-loop-slice
invariant-loop-slice l = record {
  free : AreFree l.initial.marks.items (places_of (take l.slice-index l.slices));
  marked : AreMarked l.marks.items (places_of (take l.slice-index l.slices));
  distinct : AreDistinct (places_of (take l.slice-index l.slices));
  stay : StayMarked l.initial.marks.items l.marks.items;
  were : WereFree l.initial.marks.items l.marks.items;
}
