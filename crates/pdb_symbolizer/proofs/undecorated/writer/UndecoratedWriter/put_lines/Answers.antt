use Rattle.pdb_symbolizer.proofs.NothingOut.{nothing_written}
use Rattle.pdb_symbolizer.proofs.undecorated.writer.UndecoratedWriter.put_lines.Goals as goal

pub returns-in_default-clause-part : goal.returns-in_default-clause-part
returns-in_default-clause-part g c = nothing_written g.W.Write.contents c.args.self.now
    c.args.bytes.now
