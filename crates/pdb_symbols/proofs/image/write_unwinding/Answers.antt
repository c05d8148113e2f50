use Rattle.pdb_symbols.proofs.WritingSteps.{read_front, read_out, unread_out}
use Rattle.pdb_symbols.proofs.image.write_unwinding.Goals as goal

pub returns-in-Ok-clause-ok : goal.returns-in-Ok-clause-ok
returns-in-Ok-clause-ok g c =
    read_out c.write_functions.result (g.W.Write.contents c.args.output.now)
    (g.W.Write.contents c.write_functions.new.output) c.args.image.now c.of_image.result
    c.in-Ok.functions c.of_image.ensures c.in-Ok.is c.write_functions.ensures.ok

pub returns-in-Ok-clause-part : goal.returns-in-Ok-clause-part
returns-in-Ok-clause-part g c =
    read_front c.write_functions.result (g.W.Write.contents c.args.output.now)
    (g.W.Write.contents c.write_functions.new.output) c.args.image.now c.of_image.result
    c.in-Ok.functions c.of_image.ensures c.in-Ok.is c.write_functions.ensures.part

pub returns-in-Err-clause-ok : goal.returns-in-Err-clause-ok
returns-in-Err-clause-ok g c =
    unread_out (g.W.Write.contents c.args.output.now) c.args.image.now c.of_image.result
    c.in-Err.field-0 c.of_image.ensures c.in-Err.is
