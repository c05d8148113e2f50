use Rattle.std.proofs.Common.{arith}
use Rattle.pdb_container.specs.declared.source.SourceSlice.{SourceSlice}
use Rattle.pdb_file_views.proofs.SliceSteps.{within_more, within_fail}
use Rattle.pdb_container.proofs.Slices.{places_len_more}
use Rattle.pdb_file_views.proofs.slices.size_within.Goals as goal

pub returns-then-not-is_within-clause-within : goal.returns-then-not-is_within-clause-within
returns-then-not-is_within-clause-within c =
    let none : SourceSlice = record { offset = 0; size = 0 } in
    within_fail c.args.file_size c.args.slices.now c.loop-slice.slice-index none (omega arith) c.if-not-is_within.ensures c.loop-slice.invariant.within

pub loop-slice-preserved : goal.loop-slice-preserved
loop-slice-preserved c =
    let none : SourceSlice = record { offset = 0; size = 0 } in
    record {
      within = within_more c.args.file_size c.args.slices.now c.loop-slice.slice-index none (omega arith) c.if-not-is_within.ensures c.loop-slice.invariant.within;
      size = rw (c.saturating_add-size.ensures, c.loop-slice.invariant.size, places_len_more c.args.slices.now c.loop-slice.slice-index none (omega arith)) (omega arith);
    }
