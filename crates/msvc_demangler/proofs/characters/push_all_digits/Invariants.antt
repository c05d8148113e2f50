use Rattle.std.proofs.Common.{◌≡◌, ◌++◌, take}
use Rattle.std.specs.List.{flat_map}
use Rattle.msvc_demangler.specs.Characters.{byte_digits}
use Rattle.msvc_demangler.proofs.characters.push_all_digits.Given as goal

-- the digits of the bytes so far stand after the text
abbrev pub invariant-loop-byte : goal.invariant-loop-byte
invariant-loop-byte l =
    l.text.items ≡ l.fn.text.items ++ flat_map byte_digits (take l.byte-index l.bytes)
