use Rattle.std.proofs.Common.{sym, arith}
use Rattle.msvc_demangler.specs.Literals.{wide_character_of}
use Rattle.msvc_demangler.proofs.Strings.{all_read}
use Rattle.msvc_demangler.proofs.literals.split_wide_characters.Goals as goal

pub returns-in-Some : goal.returns-in-Some
returns-in-Some c = all_read wide_character_of c.loop-left.left c.loop-left.rest.now
    c.in-Some.after.now c.loop-left.characters.items _ (omega arith) (sym c.in-Some.ensures)
    c.loop-left.invariant
