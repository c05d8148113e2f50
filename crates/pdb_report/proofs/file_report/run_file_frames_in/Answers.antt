use Rattle.std.proofs.Common.{◌≡◌, ◌^◌, ◌≤◌, List, ℕ, Err, length, true, sym, subst}
use Rattle.std.specs.Prelude.{IfSome, OnOk}
use Rattle.pdb_engine.specs.InputLines.{report}
use Rattle.pdb_engine.specs.Watched.{inner_of, Writes}
use Rattle.pdb_file_views.specs.Views.{agrees}
use Rattle.pdb_loading.specs.declared.order.ContributionOrder.{ContributionOrder}
use Rattle.pdb_report.specs.Answer.{answer_with}
use Rattle.pdb_report.specs.FrameReports.{ReportsIfKnown, frames_of}
use Rattle.pdb_report.proofs.FileFrameSteps.{file_refused}
use Rattle.pdb_report.proofs.IsolationLaw.{exchanged_out, isolated}
use Rattle.pdb_report.specs.declared.fault.RunFault.{RunFault}
use Rattle.pdb_symbols_modules.specs.Streams.{streams}
use Rattle.pdb_report.proofs.file_report.run_file_frames_in.Goals as goal

pub returns-in-Ok-clause-isolated : goal.returns-in-Ok-clause-isolated
returns-in-Ok-clause-isolated g c = isolated c.args.source.contents.numbers

pub returns-in-Err-clause-isolated : goal.returns-in-Err-clause-isolated
returns-in-Err-clause-isolated g c = isolated c.args.source.contents.numbers

-- the file's answers may be exchanged for those of a file that is alike
pub returns-in-Ok-clause-exchanged : goal.returns-in-Ok-clause-exchanged
returns-in-Ok-clause-exchanged g c = λ known.
    let contents = c.args.source.contents.numbers in
    let asked = c.in-Ok.symbolizer.contents in
    let ordered = subst (λ (o : ContributionOrder). agrees c.answer_file.result.source.views asked ≡ true
    → OnOk c.answer_file.result.outcome (IfSome (g.R.Read.remaining (inner_of c.args.reader.now)) (λ input. (length input ≤ 2 ^ 30) × Writes g.W.Write.contents c.args.writer.now c.answer_file.new.writer (report (g.L.LineForm.text (answer_with o (streams asked))) input))))
    c.in-Ok.ensures.order c.answer_file.ensures.report.run.ok in
    let ok = subst (λ (b : List ℕ). agrees c.answer_file.result.source.views b ≡ true
    → OnOk c.answer_file.result.outcome (IfSome (g.R.Read.remaining (inner_of c.args.reader.now)) (λ input. (length input ≤ 2 ^ 30) × Writes g.W.Write.contents c.args.writer.now c.answer_file.new.writer (report (g.L.LineForm.text (answer_with c.args.source.order (streams b))) input))))
    c.in-Ok.ensures.contents ordered in
    exchanged_out c.args.source.order contents c.answer_file.result.outcome (g.R.Read.remaining (inner_of c.args.reader.now)) (λ input. length input ≤ 2 ^ 30)
    (λ answers input. Writes g.W.Write.contents c.args.writer.now c.answer_file.new.writer (report (g.L.LineForm.text answers) input)) (ok known)

-- a file that isn't loaded leaves nothing out
pub returns-in-Err-clause-report : goal.returns-in-Err-clause-report
returns-in-Err-clause-report g c = record {
  contents = c.in-Err.ensures.same;
  run = subst (λ (fault : RunFault). ReportsIfKnown {T = Unit {0}}
      (agrees c.in-Err.field-0.source.views c.args.source.contents.numbers ≡ true) g.L.LineForm.text (frames_of c.args.source) (2 ^ 30)
      g.R.Read.remaining g.W.Write.contents c.args.reader.now c.args.reader.now c.args.writer.now
      c.args.writer.now (Err fault)) (sym c.from.ensures)
      (file_refused g.L.LineForm.text g.R.Read.remaining g.W.Write.contents (2 ^ 30)
      (agrees c.in-Err.field-0.source.views c.args.source.contents.numbers ≡ true) (frames_of c.args.source)
      c.args.reader.now c.args.writer.now c.in-Err.field-0.fault c.in-Err.ensures.refused);
}
