use Rattle.std.proofs.Common.{◌<◌, length, refl, arith}
use Rattle.pdb_container.specs.declared.source.SourceSlice.{SourceSlice}
use Rattle.pdb_file_views.proofs.BlockSteps.{slices_free, slices_marked, slices_distinct, stay_on, were_on}
use Rattle.pdb_file_views.proofs.block_marks.mark_slices.Goals as goal

pub loop-slice-preserved : goal.loop-slice-preserved
loop-slice-preserved c =
    let old = c.args.marks.now.items in
    let marks = c.loop-slice.marks.items in
    let new = c.mark_slice.new.marks.items in
    let slices = c.args.slices.now in
    let i = c.loop-slice.slice-index in
    let none : SourceSlice = record { offset = 0; size = 0 } in
    let lt : i < length slices = omega arith in
    let before = c.loop-slice.invariant in
    let now = c.if-not-mark_slice.ensures in
    record {
      free = slices_free old marks slices i none lt before.were (now.free refl) before.free;
      marked = slices_marked marks new slices i none lt now.stay (now.marked refl) before.marked;
      distinct = slices_distinct marks slices i none lt (now.free refl) before.marked before.distinct;
      stay = stay_on old marks new before.stay now.stay;
      were = were_on old marks new before.were now.were;
    }
