use Rattle.std.proofs.Common.{arith}
use Rattle.std.proofs.lemmas.Grind.{common_steps}
use Rattle.pdb_symbol_files.proofs.RangeBounds.{section_more}
use Rattle.pdb_symbol_files.proofs.addresses.executable_ranges.Goals.{then-execute+in_ok-push, else-execute}
use Rattle.pdb_symbol_files.proofs.addresses.executable_ranges.Goals as goal

pub loop-section-preserved : goal.loop-section-preserved
loop-section-preserved c = elim c.if-execute.branch [
  | then-execute+in_ok-push w ↦
      rw (w.ranges-is, w.in_ok-push.ensures.items)
      (record {
        code = grind (arith, common_steps);
        bounds = section_more c.args.sections.now c.loop-section.section-index _
            c.loop-section.ranges.items w.range_of.result c.loop-section-test.true
            w.range_of.ensures.start w.range_of.ensures.end c.loop-section.invariant.bounds;
      })
  | else-execute w ↦
      rw w.ranges-is
      (record { code = grind (arith, common_steps); bounds = c.loop-section.invariant.bounds })
]
