use Rattle.std.proofs.Common.{◌+◌, ◌∙◌, sym, ap, arith}
use Rattle.pdb_container.specs.Buffer.{Buffer, rest}
use Rattle.pdb_container.proofs.Taking.{taken, text_read}
use Rattle.pdb_container.proofs.buffer.ParseBuffer.parse_cstring.Goals as goal

pub returns-clause-value : goal.returns-clause-value
returns-clause-value c =
    let b : Buffer = record { bytes = c.self.inside.bytes.now; pos = c.self.inside.pos } in
    let left = ap rest c.self.view_is ∙ sym c.left-left.ensures in
    rw (sym c.self.view_is, c.from.ensures) (
      text_read b c.left-left.result.now c.in-Some.end left (sym c.in-Some.ensures.value),
      taken b (c.in-Some.end + 1) c.self.invariant (rw left (omega (arith, c.in-Some.ensures.within))),
    )
