use Rattle.std.proofs.Common.{◌≤◌, length, sym}
use Rattle.pdb_container.specs.Buffer.{Buffer, rest}
use Rattle.pdb_container.proofs.Taking.{taken, part_read}
use Rattle.pdb_container.proofs.buffer.ParseBuffer.take.Goals as goal

pub returns-clause-value : goal.returns-clause-value
returns-clause-value c =
    let b : Buffer = record { bytes = c.self.inside.bytes.now; pos = c.self.inside.pos } in
    let fits : c.args.size ≤ length (rest b) = rw (c.self.view_is, sym c.len.ensures) c.if-len-size.false in
    rw (sym c.self.view_is) (part_read b c.args.size fits, taken b c.args.size c.self.invariant fits)
