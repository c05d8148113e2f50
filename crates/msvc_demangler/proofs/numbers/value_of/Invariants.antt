use Rattle.std.proofs.Common.{◌≡◌, drop}
use Rattle.msvc_demangler.specs.Numbers.{value_after}
use Rattle.msvc_demangler.proofs.numbers.value_of.Given as goal

-- the digits that are left, after the value so far, have the value of all
abbrev pub invariant-loop-byte : goal.invariant-loop-byte
invariant-loop-byte l = value_after l.value (drop l.byte-index l.digits) ≡ value_after 0 l.digits
