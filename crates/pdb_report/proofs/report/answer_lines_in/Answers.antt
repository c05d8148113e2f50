use Rattle.std.proofs.Common.{Err, sym, subst}
use Rattle.pdb_report.specs.Answer.{answer_of, answered_in}
use Rattle.pdb_report.specs.FrameReports.{ReportsFramesIn, frames_loaded}
use Rattle.pdb_report.specs.declared.fault.RunFault.{RunFault}
use Rattle.pdb_report.proofs.FrameSteps.{ended_early, ended_well, lacking}
use Rattle.pdb_report.proofs.report.answer_lines_in.Goals as goal

pub returns-in_default : goal.returns-in_default
returns-in_default g c =
    lacking g.L.LineForm.text g.R.Read.remaining g.W.Write.contents c.args.limit
    (frames_loaded c.args.symbolizer.now) c.args.reader.now c.args.writer.now

-- the context answers as the file does
pub returns-in-Ok-outcome : goal.returns-in-Ok-outcome
returns-in-Ok-outcome g c =
    let is = c.in-Ok-outcome.ensures in
    ended_well g.L.LineForm.text g.R.Read.remaining g.W.Write.contents c.args.limit c.args.reader.now
    c.run-outcome.new.reader c.args.writer.now c.run-outcome.new.writer c.args.symbolizer.now
    (answer_of answered_in c.in-Ok.context) tt c.in-Ok.ensures.answers.frames (is.ok tt) is.quiet

pub returns-in-Err : goal.returns-in-Err
returns-in-Err g c =
    let is = c.in-Err.ensures in
    subst (λ (fault : RunFault). ReportsFramesIn {T = Unit {0}} g.L.LineForm.text (frames_loaded c.args.symbolizer.now)
    c.args.limit g.R.Read.remaining g.W.Write.contents c.args.reader.now c.run-outcome.new.reader
    c.args.writer.now c.run-outcome.new.writer (Err fault)) (sym c.from.ensures)
    (ended_early g.L.LineForm.text g.R.Read.remaining g.W.Write.contents c.args.limit c.args.reader.now
    c.run-outcome.new.reader c.args.writer.now c.run-outcome.new.writer c.args.symbolizer.now
    (answer_of answered_in c.in-Ok.context) c.in-Err.fault c.in-Ok.ensures.answers.frames is.kind
    is.read_fails is.write_fails (is.read_out tt) (is.too_long tt) (is.part tt))
