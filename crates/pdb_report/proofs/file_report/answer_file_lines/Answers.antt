use Rattle.std.proofs.Common.{◌^◌, Result, Err, sym, subst}
use Rattle.pdb_addr2line.specs.FileAnswers.{IsKnown, file_of}
use Rattle.pdb_report.specs.FrameReports.{ReportsIfKnown, frames_loaded}
use Rattle.pdb_report.specs.declared.fault.RunFault.{RunFault}
use Rattle.pdb_report.proofs.FileFrameSteps.{known_early, known_short, known_well}
use Rattle.pdb_report.proofs.file_report.answer_file_lines.Goals.{in-Ok, in-Err-OutOfMemory, in-Err}
use Rattle.pdb_report.proofs.file_report.answer_file_lines.Goals as goal

pub returns-clause-run : goal.returns-clause-run
returns-clause-run g c =
    let remaining = g.R.Read.remaining in
    let contents = g.W.Write.contents in
    let file = file_of c.args.lines.now in
    elim c.match-run.branch [
      | in-Ok w ↦ subst (λ (r : Result (Unit {0}) RunFault). ReportsIfKnown (IsKnown c.run.new.answers)
          g.L.LineForm.text (frames_loaded (file_of c.args.lines.now)) (2 ^ 30) g.R.Read.remaining g.W.Write.contents
          c.args.reader.now c.run.new.reader c.args.writer.now c.run.new.writer r) (sym w.result-is)
          (known_well g.L.LineForm.text remaining contents (2 ^ 30) (IsKnown c.run.new.answers) c.args.reader.now
          c.run.new.reader c.args.writer.now c.run.new.writer file tt w.in-Ok.ensures.ok
          w.in-Ok.ensures.quiet)
      | in-Err-OutOfMemory w ↦ subst (λ (r : Result (Unit {0}) RunFault). ReportsIfKnown
          (IsKnown c.run.new.answers) g.L.LineForm.text (frames_loaded (file_of c.args.lines.now)) (2 ^ 30)
          g.R.Read.remaining g.W.Write.contents c.args.reader.now c.run.new.reader c.args.writer.now
          c.run.new.writer r) (sym w.result-is)
          (known_short g.L.LineForm.text remaining contents (2 ^ 30) (IsKnown c.run.new.answers) c.args.reader.now
          c.run.new.reader c.args.writer.now c.run.new.writer file w.memory_fault.result
          w.memory_fault.ensures w.in-Err-OutOfMemory.ensures.part)
      | in-Err w ↦ subst (λ (r : Result (Unit {0}) RunFault). ReportsIfKnown
          (IsKnown c.run.new.answers) g.L.LineForm.text (frames_loaded (file_of c.args.lines.now)) (2 ^ 30)
          g.R.Read.remaining g.W.Write.contents c.args.reader.now c.run.new.reader c.args.writer.now
          c.run.new.writer r) (sym w.result-is)
          (subst (λ (fault : RunFault). ReportsIfKnown {T = Unit {0}}
          (IsKnown c.run.new.answers) g.L.LineForm.text (frames_loaded (file_of c.args.lines.now)) (2 ^ 30)
          g.R.Read.remaining g.W.Write.contents c.args.reader.now c.run.new.reader c.args.writer.now
          c.run.new.writer (Err fault)) (sym w.from.ensures)
          (known_early g.L.LineForm.text remaining contents (2 ^ 30) (IsKnown c.run.new.answers) c.args.reader.now
          c.run.new.reader c.args.writer.now c.run.new.writer file w.in-Err.fault
          w.in-Err.ensures.kind w.in-Err.ensures.read_fails w.in-Err.ensures.write_fails
          w.in-Err.ensures.read_out w.in-Err.ensures.too_long w.in-Err.ensures.part))
    ]
