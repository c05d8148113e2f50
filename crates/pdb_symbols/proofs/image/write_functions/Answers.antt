use Rattle.std.proofs.Common.{string_bytes}
use Rattle.pdb_symbol_files.proofs.Writes.{on_err}
use Rattle.pdb_symbols.proofs.WritingSteps.{front_on_err, front_out, function_made, part_written}
use Rattle.pdb_symbols.specs.UnwindingText.{unwound_text}
use Rattle.pdb_symbols.proofs.image.write_functions.Goals as goal

pub returns-in_err-write_if_long-clause-part : goal.returns-in_err-write_if_long-clause-part
returns-in_err-write_if_long-clause-part g c =
    on_err c.from_residual-in_err-write_if_long.result
    (front_out (g.W.Write.contents c.args.output.now) (g.W.Write.contents c.loop-text.output)
    (g.W.Write.contents c.write_if_long.new.output) (unwound_text c.args.functions.now)
    (string_bytes c.append_records.new.text) (unwound_text c.next.new.self)
    (function_made (g.W.Write.contents c.args.output.now) (g.W.Write.contents c.loop-text.output)
    (unwound_text c.args.functions.now) (string_bytes c.loop-text.text)
    (string_bytes c.append_records.new.text) c.loop-text.functions c.next.new.self
    c.in_ok-function.field-0 c.in-Some.function c.loop-text.invariant c.in_ok-function.ensures.ok
    c.in-Some.is c.in_ok-append_records.ensures)
    c.in_err-write_if_long.ensures.out)

pub loop-text-preserved : goal.loop-text-preserved
loop-text-preserved g c =
    let e = c.in_ok-write_if_long.ensures.out in
    part_written (g.W.Write.contents c.args.output.now) (g.W.Write.contents c.loop-text.output)
    (g.W.Write.contents c.write_if_long.new.output) (unwound_text c.args.functions.now)
    (string_bytes c.append_records.new.text) e.0 (string_bytes c.write_if_long.new.text)
    (unwound_text c.next.new.self)
    (function_made (g.W.Write.contents c.args.output.now) (g.W.Write.contents c.loop-text.output)
    (unwound_text c.args.functions.now) (string_bytes c.loop-text.text)
    (string_bytes c.append_records.new.text) c.loop-text.functions c.next.new.self
    c.in_ok-function.field-0 c.in-Some.function c.loop-text.invariant c.in_ok-function.ensures.ok
    c.in-Some.is c.in_ok-append_records.ensures)
    e.1 e.2

pub returns-clause-part : goal.returns-clause-part
returns-clause-part g c =
    front_on_err c.write_part.result (g.W.Write.contents c.args.output.now)
    (g.W.Write.contents c.loop-text.output) (g.W.Write.contents c.write_part.new.output)
    (unwound_text c.args.functions.now) (string_bytes c.loop-text.text)
    (unwound_text c.loop-text.functions) c.loop-text.invariant c.write_part.ensures.part
