use Rattle.std.proofs.Common.{ap, ◌∙◌}
use Rattle.std.specs.Char.{digit_value}
use Rattle.pdb_type_printing.proofs.Digits.{past_bits}
use Rattle.pdb_type_printing.proofs.names.is_number.Goals as goal

pub returns-then-value-ge4294967296 : goal.returns-then-value-ge4294967296
returns-then-value-ge4294967296 c =
    past_bits c.loop-byte.value c.args.digits.now c.loop-byte.byte-index c.from-in-loop-byte.result
    c.loop-byte-test.true
    (c.from-in-loop-byte.ensures ∙ c.in-Some.ensures.value.1 ∙ ap digit_value c.from.ensures)
    c.if-value-ge4294967296.true c.loop-byte.invariant.value
