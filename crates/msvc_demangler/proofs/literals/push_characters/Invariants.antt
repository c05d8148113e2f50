use Rattle.std.proofs.Common.{◌≡◌, ◌++◌, take}
use Rattle.std.specs.List.{flat_map}
use Rattle.msvc_demangler.specs.Characters.{written}
use Rattle.msvc_demangler.proofs.literals.push_characters.Given as goal

-- the characters so far stand after the text
abbrev pub invariant-loop-character : goal.invariant-loop-character
invariant-loop-character l =
    l.text.items ≡ l.fn.text.items ++ flat_map written (take l.character-index l.characters)
