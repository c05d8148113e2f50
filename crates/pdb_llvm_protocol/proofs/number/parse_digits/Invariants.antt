use Rattle.std.proofs.Common.{◌≡◌, ◌^◌, ◌<◌, drop}
use Rattle.std.specs.Prelude.{option_and_then}
use Rattle.pdb_llvm_protocol.specs.Number.{below, value_from}
use Rattle.pdb_llvm_protocol.proofs.number.parse_digits.Given as goal

abbrev pub invariant-loop-byte : goal.invariant-loop-byte
invariant-loop-byte l = record {
  value : option_and_then (below (2 ^ 64)) (value_from l.radix l.value (drop l.byte-index l.digits)) ≡ option_and_then (below (2 ^ 64)) (value_from l.radix 0 l.digits);
  small : l.value < 2 ^ 64;
}
