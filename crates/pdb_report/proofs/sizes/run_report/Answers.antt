use Rattle.std.proofs.Common.{Err, sym, subst}
use Rattle.pdb_report.specs.RangeReports.{CountsSizes, counted_with}
use Rattle.pdb_report.specs.declared.fault.RunFault.{RunFault}
use Rattle.pdb_report.proofs.RangeSteps.{of_loaded, refused}
use Rattle.pdb_report.proofs.sizes.run_report.Goals as goal

-- the file that was loaded is that of the bytes
pub returns-in-Ok : goal.returns-in-Ok
returns-in-Ok g c =
    of_loaded g.A.Counted.kind g.W.Write.contents c.args.start c.args.end
    c.args.writer.now c.report_in_order.new.writer c.args.order c.in-Ok.symbolizer
    c.args.bytes.items c.report_in_order.result c.in-Ok.ensures.ok c.in-Ok.ensures.loaded
    c.report_in_order.ensures

pub returns-in-Err : goal.returns-in-Err
returns-in-Err g c =
    subst (λ (fault : RunFault). CountsSizes
    (counted_with g.A.Counted.kind c.args.order c.args.bytes.items)
    c.args.start c.args.end g.W.Write.contents c.args.writer.now c.args.writer.now (Err fault))
    (sym c.from.ensures)
    (refused g.W.Write.contents
    (counted_with g.A.Counted.kind c.args.order c.args.bytes.items)
    c.args.start c.args.end c.args.writer.now c.in-Err.fault c.in-Err.ensures.refused)
