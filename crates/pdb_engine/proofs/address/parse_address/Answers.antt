use Rattle.std.proofs.Common.{◌<◌, arith, rules, ◌∙◌}
use Rattle.pdb_engine.proofs.Hex.{digits_more, no_address, room, small_more, the_address, value_more}
use Rattle.pdb_engine.proofs.address.parse_address.Goals as goal

pub overflow_mul-value : goal.overflow_mul-value
overflow_mul-value c =
    let small : c.loop-byte.value < 268435456 = room c.loop-byte.byte-index c.loop-byte.value (omega arith) c.loop-byte.invariant.small in
    omega arith

pub overflow_add-value : goal.overflow_add-value
overflow_add-value c =
    let small : c.loop-byte.value < 268435456 = room c.loop-byte.byte-index c.loop-byte.value (omega arith) c.loop-byte.invariant.small in
    omega (arith, c.in_ok-value.ensures.value.0, c.in_ok-value.ensures.value.1)

pub returns-in_err-value : goal.returns-in_err-value
returns-in_err-value c = c.from_residual.ensures ∙ no_address c.args.line.now c.strip_return.result.now c.strip_hex_prefix-digits.result.now c.loop-byte.byte-index c.from.result c.strip_return.ensures c.strip_hex_prefix-digits.ensures c.loop-byte.invariant.digits c.loop-byte-test.true c.from.ensures c.in_err-value.ensures.value

pub returns : goal.returns
returns c = the_address c.args.line.now c.strip_return.result.now c.strip_hex_prefix-digits.result.now c.loop-byte.byte-index _ c.strip_return.ensures c.strip_hex_prefix-digits.ensures c.loop-byte.invariant.digits c.loop-byte.invariant.value c.loop-byte-test.false (search rules) c.if-digits-gt8.false

pub loop-byte-preserved : goal.loop-byte-preserved
loop-byte-preserved c =
    let digits = c.strip_hex_prefix-digits.result.now in
    let d = c.in_ok-value.ensures.value in
    record {
      value = value_more digits c.loop-byte.byte-index c.loop-byte.value c.from.result _ _ c.loop-byte-test.true c.from.ensures d.1 c.loop-byte.invariant.value;
      digits = digits_more digits c.loop-byte.byte-index c.from.result _ c.loop-byte-test.true c.from.ensures d.0 c.loop-byte.invariant.digits;
      small = small_more c.loop-byte.byte-index c.loop-byte.value c.in_ok-value.field-0 c.loop-byte.invariant.small (omega (arith, d.0, d.1));
    }
