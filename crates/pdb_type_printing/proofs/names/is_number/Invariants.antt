use Rattle.std.proofs.Common.{◌≡◌, ◌<◌, ◌^◌, drop}
use Rattle.std.specs.Char.{is_digit}
use Rattle.std.specs.List.{list_all}
use Rattle.std.specs.Str.Parse.{digits_value, digits_value_after}
use Rattle.pdb_type_printing.proofs.names.is_number.Given as goal

abbrev pub invariant-loop-byte : goal.invariant-loop-byte
invariant-loop-byte l = record {
  small : l.value < 2 ^ 32;
  value : digits_value_after 16 l.value (drop l.byte-index l.digits) ≡ digits_value 16 l.digits;
  digits : list_all (λ b. is_digit b 16) (drop l.byte-index l.digits)
      ≡ list_all (λ b. is_digit b 16) l.digits;
}
