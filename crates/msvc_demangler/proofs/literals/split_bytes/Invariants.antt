use Rattle.std.proofs.Common.{◌≡◌, ◌+◌, ◌≤◌, vec_len}
use Rattle.std.specs.Prelude.{option_map}
use Rattle.msvc_demangler.specs.Characters.{character_of}
use Rattle.msvc_demangler.specs.Literals.{characters_of}
use Rattle.msvc_demangler.proofs.Strings.{after_front}
use Rattle.msvc_demangler.proofs.literals.split_bytes.Given as goal

-- the bytes so far, and then those of what is left, are those of the text
abbrev pub invariant-loop-left : goal.invariant-loop-left
invariant-loop-left l = record {
  read : characters_of character_of 129 l.text
      ≡ option_map (after_front l.bytes.items) (characters_of character_of l.left l.rest);
  few : vec_len l.bytes + l.left ≤ 129;
}

abbrev pub decreases-loop-left : goal.decreases-loop-left
decreases-loop-left l = l.left
