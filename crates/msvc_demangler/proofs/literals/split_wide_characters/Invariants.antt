use Rattle.std.proofs.Common.{◌≡◌, length}
use Rattle.std.specs.Prelude.{option_map}
use Rattle.msvc_demangler.specs.Literals.{characters_of, wide_character_of}
use Rattle.msvc_demangler.proofs.Strings.{after_front}
use Rattle.msvc_demangler.proofs.literals.split_wide_characters.Given as goal

-- the characters so far, and then those of what is left, are those of the text
abbrev pub invariant-loop-left : goal.invariant-loop-left
invariant-loop-left l =
    characters_of wide_character_of (length l.text) l.text
    ≡ option_map (after_front l.characters.items) (characters_of wide_character_of l.left l.rest)

abbrev pub decreases-loop-left : goal.decreases-loop-left
decreases-loop-left l = l.left
