use Rattle.std.proofs.Common.{arith, rules, string_bytes}
use Rattle.std.specs.Str.{chars}
use Rattle.std.proofs.lemmas.Iterator.{YieldsList-from_chars}
use Rattle.std.proofs.lemmas.Iterator.Consumers.{YieldsList-turn, YieldsList-end}
use Rattle.pdb_symbol_files.proofs.TextSteps.{clean_end, clean_more}
use Rattle.pdb_symbol_files.proofs.texts.cleaned.Goals as goal

pub loop-character-preserved : goal.loop-character-preserved
loop-character-preserved c =
    let t = YieldsList-turn (YieldsList-from_chars c.args.text.now c.utf8.text cc)
    c.loop-character.yielded _ c.loop-character.yielded_by _ _ c.in-Some.character c.in-Some.is
    c.next.ensures.steps in
    clean_more (chars c.args.text.now) c.loop-character.yielded c.in-Some.character
    c.loop-character.leading c.still_leading-leading.result (string_bytes c.loop-character.made)
    (string_bytes c.push.new.self) _ t c.still_leading-leading.ensures
    (search rules) c.loop-character.invariant

pub returns : goal.returns
returns c =
    let t = YieldsList-end (YieldsList-from_chars c.args.text.now c.utf8.text cc)
    c.loop-character.yielded _ c.loop-character.yielded_by _ _ c.in-None.is c.next.ensures.steps in
    clean_end (chars c.args.text.now) _ c.loop-character.leading (string_bytes c.loop-character.made) _
    (omega (arith, t.1)) c.loop-character.invariant
