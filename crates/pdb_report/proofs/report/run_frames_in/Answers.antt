use Rattle.std.proofs.Common.{◌^◌, Err, sym, subst}
use Rattle.pdb_report.specs.FrameReports.{ReportsFramesIn, frames_with}
use Rattle.pdb_report.specs.declared.fault.RunFault.{RunFault}
use Rattle.pdb_report.proofs.FrameSteps.{refused}
use Rattle.pdb_report.proofs.report.run_frames_in.Goals as goal

pub returns-in-Err : goal.returns-in-Err
returns-in-Err g c =
    subst (λ (fault : RunFault). ReportsFramesIn {T = Unit {0}} g.L.LineForm.text (frames_with c.args.order c.args.bytes.items) (2 ^ 30)
    g.R.Read.remaining g.W.Write.contents c.args.reader.now c.args.reader.now c.args.writer.now
    c.args.writer.now (Err fault)) (sym c.from.ensures)
    (refused g.L.LineForm.text g.R.Read.remaining g.W.Write.contents (2 ^ 30) (frames_with c.args.order c.args.bytes.items)
    c.args.reader.now c.args.writer.now c.in-Err.fault c.in-Err.ensures.refused)
