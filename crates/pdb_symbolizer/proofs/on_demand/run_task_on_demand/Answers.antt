use Rattle.std.proofs.Common.{◌≡◌, ◌^◌, ◌∙◌, ap, rules, sym}
use Rattle.pdb_engine.specs.Watched.{inner_of, Writes, WritesFront}
use Rattle.pdb_report.specs.AddressText.{line_text}
use Rattle.pdb_report.specs.JsonLine.{json_line}
use Rattle.pdb_symbolizer.specs.Tasks.{OnReport, line_if, order_of}
use Rattle.pdb_symbols_modules.specs.Streams.{streams}
use Rattle.pdb_symbolizer.proofs.FrameReports.{asked_ok, asked_part}
use Rattle.pdb_symbolizer.proofs.on_demand.run_task_on_demand.Goals as goal

-- the report in JSON
pub returns-in-Frames-default-default-default-true : goal.returns-in-Frames-default-default-default-true
returns-in-Frames-default-default-default-true g c =
    let it = c.in-Frames-default-default-default-true in
    record {
      contents = search rules;
      load = search rules;
      loaded = search rules;
      reversed = search rules;
      order = search rules;
      ok = λ known. asked_ok (Writes g.W.Write.contents c.args.writer.now c.run_file_frames_in.new.writer) (streams c.args.source.contents.numbers) json_line c.args.source.order c.args.task.now it.any_order it.json
          c.run_file_frames_in.result.outcome (2 ^ 30) (g.R.Read.remaining (inner_of c.args.reader.now)) (λ q. ap (λ t. OnReport t (streams c.args.source.contents.numbers) q (Writes g.W.Write.contents c.args.writer.now c.run_file_frames_in.new.writer)) it.is) (ap line_if (sym it.json-is ∙ it.json-test)) (c.requires ∙ ap order_of it.is) (c.run_file_frames_in.ensures.report.run.ok known);
      quiet = search rules;
      write_fails = search rules;
      part = λ known. asked_part (WritesFront g.W.Write.contents c.args.writer.now c.run_file_frames_in.new.writer) (streams c.args.source.contents.numbers) json_line c.args.source.order c.args.task.now it.any_order it.json
          (c.run_file_frames_in.new.writer ≡ c.args.writer.now) c.run_file_frames_in.result.outcome (g.R.Read.remaining (inner_of c.args.reader.now)) (λ q. ap (λ t. OnReport t (streams c.args.source.contents.numbers) q (WritesFront g.W.Write.contents c.args.writer.now c.run_file_frames_in.new.writer)) it.is) (ap line_if (sym it.json-is ∙ it.json-test)) (c.requires ∙ ap order_of it.is) (c.run_file_frames_in.ensures.report.run.part known);
    }

-- that in text
pub returns-in-Frames : goal.returns-in-Frames
returns-in-Frames g c =
    let it = c.in-Frames in
    record {
      contents = search rules;
      load = search rules;
      loaded = search rules;
      reversed = search rules;
      order = search rules;
      ok = λ known. asked_ok (Writes g.W.Write.contents c.args.writer.now c.run_file_frames.new.writer) (streams c.args.source.contents.numbers) line_text c.args.source.order c.args.task.now it.any_order it.json
          c.run_file_frames.result.outcome (2 ^ 30) (g.R.Read.remaining (inner_of c.args.reader.now)) (λ q. ap (λ t. OnReport t (streams c.args.source.contents.numbers) q (Writes g.W.Write.contents c.args.writer.now c.run_file_frames.new.writer)) it.is) (ap line_if (sym it.json-is ∙ it.json-test)) (c.requires ∙ ap order_of it.is) (c.run_file_frames.ensures.report.run.ok known);
      quiet = search rules;
      write_fails = search rules;
      part = λ known. asked_part (WritesFront g.W.Write.contents c.args.writer.now c.run_file_frames.new.writer) (streams c.args.source.contents.numbers) line_text c.args.source.order c.args.task.now it.any_order it.json
          (c.run_file_frames.new.writer ≡ c.args.writer.now) c.run_file_frames.result.outcome (g.R.Read.remaining (inner_of c.args.reader.now)) (λ q. ap (λ t. OnReport t (streams c.args.source.contents.numbers) q (WritesFront g.W.Write.contents c.args.writer.now c.run_file_frames.new.writer)) it.is) (ap line_if (sym it.json-is ∙ it.json-test)) (c.requires ∙ ap order_of it.is) (c.run_file_frames.ensures.report.run.part known);
    }
