use Rattle.std.proofs.Common.{◌≡◌, ◌++◌}
use Rattle.std.specs.List.{flat_map}
use Rattle.msvc_demangler.specs.Characters.{written}
use Rattle.msvc_demangler.specs.Literals.{joined}
use Rattle.msvc_demangler.proofs.literals.push_joined.Given as goal

-- the text so far, and then the characters that are left, are the whole text
abbrev pub invariant-loop-left : goal.invariant-loop-left
invariant-loop-left l =
    l.fn.text.items ++ flat_map written (joined l.size l.count l.bytes)
    ≡ l.text.items ++ flat_map written (joined l.size l.left l.rest)

abbrev pub decreases-loop-left : goal.decreases-loop-left
decreases-loop-left l = l.left
