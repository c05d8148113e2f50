use Rattle.std.proofs.Common.{ℕ, ◌∷◌, ◌+◌, ◌∙◌, length, sym, ap, arith}
use Rattle.pdb_container.specs.Buffer.{Buffer, rest}
use Rattle.pdb_container.proofs.Taking.{taken, pascal_read}
use Rattle.pdb_container.proofs.buffer.ParseBuffer.parse_u8_pascal_string.Goals as goal

pub returns-clause-value : goal.returns-clause-value
returns-clause-value c =
    let b : Buffer = record { bytes = c.self.inside.bytes.now; pos = c.self.inside.pos } in
    let left = ap rest c.self.view_is ∙ sym c.left.ensures ∙ c.in-Some.ensures.cases.0 ∙ ap (λ (n : ℕ). n ∷ c.in-Some.behind.now) (sym c.from-size.ensures) in
    let count = ap length left in
    rw (sym c.self.view_is, c.from.ensures) (
      pascal_read b c.in-Some.behind.now c.from-size.result left c.if-behind-size.false,
      taken b (c.from-size.result + 1) c.self.invariant (rw left (omega (arith, c.if-behind-size.false))),
    )
