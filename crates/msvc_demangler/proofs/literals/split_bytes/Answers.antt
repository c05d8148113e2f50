use Rattle.std.proofs.Common.{sym, arith}
use Rattle.msvc_demangler.specs.Characters.{character_of}
use Rattle.msvc_demangler.proofs.Strings.{all_read}
use Rattle.msvc_demangler.proofs.literals.split_bytes.Goals as goal

pub returns-in-Some-clause-are : goal.returns-in-Some-clause-are
returns-in-Some-clause-are c = all_read character_of c.loop-left.left c.loop-left.rest.now
    c.in-Some.after.now c.loop-left.bytes.items _ (omega arith) (sym c.in-Some.ensures)
    c.loop-left.invariant.read
