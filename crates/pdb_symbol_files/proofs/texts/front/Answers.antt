use Rattle.std.proofs.Common.{arith, length, length-append, string_bytes, ap, ◌≡◌, ◌+◌, ◌-◌, ◌≤◌, ◌<◌, ◌++◌, ◌∙◌}
use Rattle.std.specs.Char.{encode_utf8}
use Rattle.std.specs.Str.{chars}
use Rattle.std.proofs.lemmas.Iterator.{YieldsList-from_chars}
use Rattle.std.proofs.lemmas.Iterator.Consumers.{YieldsList-turn, YieldsList-end}
use Rattle.pdb_symbol_files.proofs.TextSteps.{front_end, front_full, front_more}
use Rattle.pdb_symbol_files.proofs.texts.front.Goals as goal

pub loop-character-preserved : goal.loop-character-preserved
loop-character-preserved c =
    let t = YieldsList-turn (YieldsList-from_chars c.args.text.now c.utf8.text cc)
    c.loop-character.yielded _ c.loop-character.yielded_by _ _ c.in-Some.character c.in-Some.is
    c.next.ensures.steps in
    let made = string_bytes c.loop-character.made in
    let one = encode_utf8 c.in-Some.character in
    let m : string_bytes c.push.new.self ≡ made ++ one = c.in_ok-push.ensures.bytes in
    let size : length (string_bytes c.push.new.self) ≡ length made + length one
    = ap length m ∙ length-append made one in
    let fits : length one ≤ c.args.limit - length made = omega arith in
    record {
      within = omega arith;
      so_far = front_more (chars c.args.text.now) c.loop-character.yielded c.in-Some.character
          c.args.limit made (string_bytes c.push.new.self) _ t fits m
          c.loop-character.invariant.so_far;
    }

pub returns-then-saturating_sub-len_utf8 : goal.returns-then-saturating_sub-len_utf8
returns-then-saturating_sub-len_utf8 c =
    let t = YieldsList-turn (YieldsList-from_chars c.args.text.now c.utf8.text cc)
    c.loop-character.yielded _ c.loop-character.yielded_by _ _ c.in-Some.character c.in-Some.is
    c.next.ensures.steps in
    let made = string_bytes c.loop-character.made in
    let full : c.args.limit - length made < length (encode_utf8 c.in-Some.character)
    = omega arith in
    front_full (chars c.args.text.now) _ c.in-Some.character (c.args.limit - length made) made _ t
    full c.loop-character.invariant.so_far

pub returns : goal.returns
returns c =
    let t = YieldsList-end (YieldsList-from_chars c.args.text.now c.utf8.text cc)
    c.loop-character.yielded _ c.loop-character.yielded_by _ _ c.in-None.is c.next.ensures.steps in
    front_end (chars c.args.text.now) _ _ (string_bytes c.loop-character.made) _
    (omega (arith, t.1)) c.loop-character.invariant.so_far
