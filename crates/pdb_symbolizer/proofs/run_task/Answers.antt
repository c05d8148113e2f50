use Rattle.std.proofs.Common.{◌≡◌, ◌^◌, ◌∙◌, ap, rules, sym}
use Rattle.pdb_engine.specs.Watched.{inner_of, Writes, WritesFront}
use Rattle.pdb_report.specs.AddressText.{line_text}
use Rattle.pdb_report.specs.JsonLine.{json_line}
use Rattle.pdb_symbolizer.specs.Tasks.{OnReport, line_if, order_of}
use Rattle.pdb_symbols_modules.specs.Streams.{streams}
use Rattle.pdb_symbolizer.proofs.FrameReports.{asked_ok, asked_part}
use Rattle.pdb_symbolizer.proofs.run_task.Goals as goal

-- the report in JSON
pub returns-in-Frames-default-default-default-true : goal.returns-in-Frames-default-default-default-true
returns-in-Frames-default-default-default-true g c =
    let it = c.in-Frames-default-default-default-true in
    record {
      load = search rules;
      loaded = search rules;
      reversed = search rules;
      order = search rules;
      ok = asked_ok (Writes g.W.Write.contents c.args.writer.now c.run_frames_in.new.writer) (streams c.args.bytes.items) json_line c.order_of-order.result c.args.task.now it.any_order it.json
          c.run_frames_in.result (2 ^ 30) (g.R.Read.remaining (inner_of c.args.reader.now)) (λ q. ap (λ t. OnReport t (streams c.args.bytes.items) q (Writes g.W.Write.contents c.args.writer.now c.run_frames_in.new.writer)) it.is) (ap line_if (sym it.json-is ∙ it.json-test)) (c.order_of-order.ensures ∙ ap order_of it.is) c.run_frames_in.ensures.ok;
      quiet = search rules;
      write_fails = search rules;
      part = asked_part (WritesFront g.W.Write.contents c.args.writer.now c.run_frames_in.new.writer) (streams c.args.bytes.items) json_line c.order_of-order.result c.args.task.now it.any_order it.json
          (c.run_frames_in.new.writer ≡ c.args.writer.now) c.run_frames_in.result (g.R.Read.remaining (inner_of c.args.reader.now)) (λ q. ap (λ t. OnReport t (streams c.args.bytes.items) q (WritesFront g.W.Write.contents c.args.writer.now c.run_frames_in.new.writer)) it.is) (ap line_if (sym it.json-is ∙ it.json-test)) (c.order_of-order.ensures ∙ ap order_of it.is) c.run_frames_in.ensures.part;
    }

-- that in text
pub returns-in-Frames : goal.returns-in-Frames
returns-in-Frames g c =
    let it = c.in-Frames in
    record {
      load = search rules;
      loaded = search rules;
      reversed = search rules;
      order = search rules;
      ok = asked_ok (Writes g.W.Write.contents c.args.writer.now c.run_frames_with_order.new.writer) (streams c.args.bytes.items) line_text c.order_of-order.result c.args.task.now it.any_order it.json
          c.run_frames_with_order.result (2 ^ 30) (g.R.Read.remaining (inner_of c.args.reader.now)) (λ q. ap (λ t. OnReport t (streams c.args.bytes.items) q (Writes g.W.Write.contents c.args.writer.now c.run_frames_with_order.new.writer)) it.is) (ap line_if (sym it.json-is ∙ it.json-test)) (c.order_of-order.ensures ∙ ap order_of it.is) c.run_frames_with_order.ensures.ok;
      quiet = search rules;
      write_fails = search rules;
      part = asked_part (WritesFront g.W.Write.contents c.args.writer.now c.run_frames_with_order.new.writer) (streams c.args.bytes.items) line_text c.order_of-order.result c.args.task.now it.any_order it.json
          (c.run_frames_with_order.new.writer ≡ c.args.writer.now) c.run_frames_with_order.result (g.R.Read.remaining (inner_of c.args.reader.now)) (λ q. ap (λ t. OnReport t (streams c.args.bytes.items) q (WritesFront g.W.Write.contents c.args.writer.now c.run_frames_with_order.new.writer)) it.is) (ap line_if (sym it.json-is ∙ it.json-test)) (c.order_of-order.ensures ∙ ap order_of it.is) c.run_frames_with_order.ensures.part;
    }
