use Rattle.pdb_symbol_files.proofs.CodeRanges.{between_ascending, cut_none, cut_some}
use Rattle.pdb_symbol_files.proofs.RangeBounds.{begin_more}
use Rattle.pdb_symbol_files.proofs.addresses.disjoint.Goals.{then-start-range+in_ok-push, else-start-range}
use Rattle.pdb_symbol_files.proofs.addresses.disjoint.Goals as goal

pub loop-range-preserved : goal.loop-range-preserved
loop-range-preserved c = elim c.if-start-range.branch [
  | then-start-range+in_ok-push w ↦
      rw (w.made-is, w.done-is, w.in_ok-push.ensures.items)
      (record {
        cut = cut_some c.args.ranges.now c.loop-range.made.items c.loop-range.range-index
            c.loop-range.done c.max-start.result (record { start = 0; end = 0 }) c.requires
            c.loop-range-test.true c.max-start.ensures w.if-start-range.true
            c.loop-range.invariant.cut;
        begin = begin_more c.args.ranges.now c.loop-range.made.items c.loop-range.range-index
            c.loop-range.done c.max-start.result (record { start = 0; end = 0 })
            c.loop-range-test.true c.max-start.ensures w.if-start-range.true
            c.loop-range.invariant.begin;
      })
  | else-start-range w ↦
      rw (w.made-is, w.done-is)
      (record {
        cut = cut_none c.args.ranges.now c.loop-range.made.items c.loop-range.range-index
            c.loop-range.done c.max-start.result (record { start = 0; end = 0 }) c.requires
            c.loop-range-test.true c.max-start.ensures w.if-start-range.false
            c.loop-range.invariant.cut;
        begin = c.loop-range.invariant.begin;
      })
]

pub returns-clause-ascending : goal.returns-clause-ascending
returns-clause-ascending c =
    between_ascending c.loop-range.made.items 0 c.loop-range.done
    c.loop-range.invariant.cut.between
